use Rattle.warm_frames.proofs.StreamLemmas.{part_or_fault}
use Rattle.warm_frames.proofs.laws.part_or_fault.Goals as goal

pub returns : goal.returns
returns c = part_or_fault
