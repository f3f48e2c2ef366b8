use Rattle.warm_rank.proofs.DistanceLemmas.{distance_is_places_back}
use Rattle.warm_rank.proofs.laws.distance_is_places_back.Goals as goal

pub returns : goal.returns
returns c = distance_is_places_back
