use Rattle.warm_frames.proofs.SizeLemmas.{nothing_short}
use Rattle.warm_frames.proofs.decoder.Decoder.new.Goals as goal

pub invariant_of-result : goal.invariant_of-result
invariant_of-result c = nothing_short _ c.new.ensures.items
