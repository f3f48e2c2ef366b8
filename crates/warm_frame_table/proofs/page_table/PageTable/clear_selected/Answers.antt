use Rattle.std.proofs.Common.{length, ap, sym, ◌∙◌}
use Rattle.warm_rank.specs.Laws.{pages_in}
use Rattle.warm_frame_table.proofs.CountLemmas.{none_held}
use Rattle.warm_frame_table.proofs.VacateLemmas.{none_left}
use Rattle.warm_frame_table.proofs.page_table.PageTable.clear_selected.Goals as goal

pub invariant_of-self : goal.invariant_of-self
invariant_of-self c = record {
  linked = c.clear_all.ensures.linked;
  counted = sym (ap (λ pages. length (pages_in pages)) (c.clear_all.ensures.pages ∙ none_left c.self.inside.pages.items) ∙ none_held (length c.self.inside.pages.items));
}
