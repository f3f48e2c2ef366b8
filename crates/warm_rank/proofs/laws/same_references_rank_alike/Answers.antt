use Rattle.warm_rank.proofs.EvictionLemmas.{same_references_rank_alike}
use Rattle.warm_rank.proofs.laws.same_references_rank_alike.Goals as goal

pub returns : goal.returns
returns c = same_references_rank_alike
