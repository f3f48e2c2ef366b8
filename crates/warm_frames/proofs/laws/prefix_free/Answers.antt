use Rattle.warm_frames.proofs.FrameLemmas.{prefix_free}
use Rattle.warm_frames.proofs.laws.prefix_free.Goals as goal

pub returns : goal.returns
returns c = prefix_free
