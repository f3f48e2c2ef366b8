use Rattle.std.proofs.Common.{Some, None, subst, arith}
use Rattle.warm_frame_table.specs.Places.{IsFirstFree}
use Rattle.warm_frame_table.proofs.PlaceLemmas.{free_found, free_full}
use Rattle.warm_frame_table.proofs.page_table.PageTable.first_free.Goals as goal

pub returns-then-first-frames : goal.returns-then-first-frames
returns-then-first-frames c =
    subst (λ pages. IsFirstFree pages (Some c.index.result.now)) c.self.view_is
    (free_found c.self.inside.pages.items _ _ c.len-frames.result c.index.result.now c.self.invariant.linked (omega arith) c.index.ensures c.if-first-frames.true)

pub returns-else-first-frames : goal.returns-else-first-frames
returns-else-first-frames c =
    subst (λ pages. IsFirstFree pages None) c.self.view_is
    (free_full c.self.inside.pages.items _ _ c.len-frames.result c.index.result.now c.self.invariant.linked (omega arith) c.index.ensures c.if-first-frames.false)
