use Rattle.warm_frames.proofs.StreamLemmas.{one_fault}
use Rattle.warm_frames.proofs.laws.one_fault.Goals as goal

pub returns : goal.returns
returns c = one_fault
