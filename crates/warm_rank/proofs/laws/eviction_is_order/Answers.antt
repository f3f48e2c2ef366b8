use Rattle.warm_rank.proofs.EvictionLemmas.{eviction_is_order}
use Rattle.warm_rank.proofs.laws.eviction_is_order.Goals as goal

pub returns : goal.returns
returns c = eviction_is_order
