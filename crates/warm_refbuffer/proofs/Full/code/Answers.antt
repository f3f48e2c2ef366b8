use Rattle.std.proofs.Common.{refl}
use Rattle.warm_refbuffer.proofs.Full.code.Goals as goal

pub returns : goal.returns
returns c = refl
