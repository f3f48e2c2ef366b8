use Rattle.warm_frames.proofs.FrameLemmas.{encoding_is_injective}
use Rattle.warm_frames.proofs.laws.encoding_is_injective.Goals as goal

pub returns : goal.returns
returns c = encoding_is_injective
