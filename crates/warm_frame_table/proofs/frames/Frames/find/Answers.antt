use Rattle.std.proofs.Common.{subst}
use Rattle.warm_frame_table.specs.Places.{IsPlaceOf}
use Rattle.warm_frame_table.proofs.StoredLemmas.{seen_pages}
use Rattle.warm_frame_table.proofs.frames.Frames.find.Goals as goal

pub returns : goal.returns
returns c = subst (λ pages. IsPlaceOf pages c.args.page c.find.result) (seen_pages c.self.invariant c.self.view_is) c.find.ensures
