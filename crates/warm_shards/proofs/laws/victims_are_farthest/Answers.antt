use Rattle.warm_shards.proofs.LawsHold.{victims_are_farthest}
use Rattle.warm_shards.proofs.laws.victims_are_farthest.Goals as goal

pub returns : goal.returns
returns c = victims_are_farthest
