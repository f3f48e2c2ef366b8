use Rattle.std.proofs.Common.{ap, ◌∙◌, sym, refl, ◌++◌}
use Rattle.warm_maps.specs.PageHists.{hist_stamps, known_stamps, latest_of}
use Rattle.warm_maps.proofs.page_map.record_new.Goals as goal

pub returns-clause-ok : goal.returns-clause-ok
returns-clause-ok g c = λ page. (
  c.args.more.now,
  c.prove_two_latest.ensures ∙ ap (λ k. latest_of (hist_stamps c.args.more.now ++ known_stamps k)) (sym c.requires),
  c.in_ok-insert.ensures.entries,
  (refl, sym c.requires, λ same. absurd (cc)),
)
