use Rattle.std.proofs.Common.{◌≡◌, ◌++◌, Some, ap, sym, ◌∙◌}
use Rattle.warm_maps.specs.PageHists.{latest_of, hist_stamps}
use Rattle.warm_maps.proofs.RecordLemmas.{put_over, put_back_over}
use Rattle.warm_maps.proofs.page_map.record_likely_new.Goals as goal

-- the page was known, and its value is unchanged
pub returns-clause-ok : goal.returns-clause-ok
returns-clause-ok g c = λ page.
    let cmp = g.K.Ord.cmp in
    let p = c.args.key in
    let more = c.args.more.now in
    let after = c.merge_into.new.known in
    let through = c.get_mut.follows.holds after in
    put_back_over cmp g.met.K.Ord.total c.args.map.now.entries _ _ page p more more c.in-Some.before after c.insert.ensures.was_ordered c.merge_into.ensures.now (sym c.in-Some.is ∙ c.in_ok-before.ensures.old)
    c.in_ok-before.ensures.entries
    through.0
    (sym (c.merge_into.ensures.same c.if-merge_into.false))

-- it was known, and changes
pub returns-then-merge_into-clause-ok : goal.returns-then-merge_into-clause-ok
returns-then-merge_into-clause-ok g c = λ page.
    let cmp = g.K.Ord.cmp in
    let p = c.args.key in
    let more = c.args.more.now in
    let after = c.merge_into.new.known in
    let through = c.get_mut.follows.holds after in
    let same : c.merge_into.new.more ≡ c.in-Some.before = c.merge_into.ensures.before in
    put_over cmp g.met.K.Ord.total c.args.map.now.entries _ _ page p more more c.merge_into.new.more after
    (c.merge_into.ensures.now ∙ ap (λ h. latest_of (hist_stamps more ++ hist_stamps h)) (sym same))
    (ap (λ h. Some h) same ∙ sym c.in-Some.is ∙ c.in_ok-before.ensures.old)
    c.in_ok-before.ensures.entries
    through.0
    (c.merge_into.ensures.differs c.if-merge_into.true)
