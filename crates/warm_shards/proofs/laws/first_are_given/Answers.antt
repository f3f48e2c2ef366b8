use Rattle.warm_shards.proofs.LawsHold.{first_are_given}
use Rattle.warm_shards.proofs.laws.first_are_given.Goals as goal

pub returns : goal.returns
returns c = first_are_given
