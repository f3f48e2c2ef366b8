use Rattle.std.proofs.Common.{length, ap, sym, ◌∙◌}
use Rattle.warm_rank.specs.Laws.{pages_in}
use Rattle.warm_frame_table.proofs.CountLemmas.{none_held}
use Rattle.warm_frame_table.proofs.PlaceLemmas.{none_linked}
use Rattle.warm_frame_table.proofs.page_table.PageTable.new.Goals as goal

pub invariant_of-result : goal.invariant_of-result
invariant_of-result c = record {
  linked = none_linked c.args.frames _ _ _ c.in_ok-pages.ensures c.in_ok-heads.ensures c.in_ok-next.ensures c.requires.few;
  counted = sym (ap (λ pages. length (pages_in pages)) c.in_ok-pages.ensures ∙ none_held c.args.frames);
}
