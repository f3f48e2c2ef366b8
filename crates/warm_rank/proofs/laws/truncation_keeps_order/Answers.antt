use Rattle.warm_rank.proofs.EvictionLemmas.{truncation_keeps_order}
use Rattle.warm_rank.proofs.laws.truncation_keeps_order.Goals as goal

pub returns : goal.returns
returns c = truncation_keeps_order
