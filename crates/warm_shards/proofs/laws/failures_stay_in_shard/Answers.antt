use Rattle.warm_shards.proofs.HoldsPagesLemmas.{failures_stay}
use Rattle.warm_shards.proofs.laws.failures_stay_in_shard.Goals as goal

pub returns : goal.returns
returns c = failures_stay
