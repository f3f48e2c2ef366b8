use Rattle.warm_shards.proofs.LawsHold.{whole_is_of_given}
use Rattle.warm_shards.proofs.laws.whole_is_of_given.Goals as goal

pub returns : goal.returns
returns c = whole_is_of_given
