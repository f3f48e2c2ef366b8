use Rattle.std.proofs.Common.{length, ap, ◌∙◌}
use Rattle.warm_rank.specs.Laws.{pages_in}
use Rattle.warm_frame_table.proofs.StoredLemmas.{seen_pages}
use Rattle.warm_frame_table.proofs.frames.Frames.held.Goals as goal

pub returns : goal.returns
returns c = c.held.ensures ∙ ap (λ pages. length (pages_in pages)) (seen_pages c.self.invariant c.self.view_is)
