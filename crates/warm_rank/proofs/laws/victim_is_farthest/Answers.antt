use Rattle.warm_rank.proofs.VictimLemmas.{victim_is_farthest}
use Rattle.warm_rank.proofs.laws.victim_is_farthest.Goals as goal

pub returns : goal.returns
returns c = victim_is_farthest
