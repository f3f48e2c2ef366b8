use Rattle.warm_shards.proofs.LawsHold.{shards_stand}
use Rattle.warm_shards.proofs.laws.shards_stand.Goals as goal

pub returns : goal.returns
returns c = shards_stand
