use Rattle.warm_rank.proofs.SlotLemmas.{least_key_is_victim}
use Rattle.warm_rank.proofs.laws.least_key_is_victim.Goals as goal

pub returns : goal.returns
returns c = least_key_is_victim
