use Rattle.std.proofs.Common.{subst}
use Rattle.warm_frame_table.specs.Places.{IsFirstFree}
use Rattle.warm_frame_table.proofs.StoredLemmas.{seen_pages}
use Rattle.warm_frame_table.proofs.frames.Frames.first_free.Goals as goal

pub returns : goal.returns
returns c = subst (λ pages. IsFirstFree pages c.first_free.result) (seen_pages c.self.invariant c.self.view_is) c.first_free.ensures
