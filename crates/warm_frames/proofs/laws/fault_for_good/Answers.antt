use Rattle.warm_frames.proofs.SizeLemmas.{fault_for_good}
use Rattle.warm_frames.proofs.laws.fault_for_good.Goals as goal

pub returns : goal.returns
returns c = fault_for_good
