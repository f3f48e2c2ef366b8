use Rattle.warm_frames.proofs.SizeLemmas.{part_is_short}
use Rattle.warm_frames.proofs.laws.part_is_short.Goals as goal

pub returns : goal.returns
returns c = part_is_short
