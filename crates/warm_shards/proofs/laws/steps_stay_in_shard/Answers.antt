use Rattle.warm_shards.proofs.HoldsPagesLemmas.{steps_stay}
use Rattle.warm_shards.proofs.laws.steps_stay_in_shard.Goals as goal

pub returns : goal.returns
returns c = steps_stay
