use Rattle.warm_concurrent.proofs.VictimLemmas.{shared_victims}
use Rattle.warm_concurrent.proofs.laws.shared_victims_are_farthest.Goals as goal

pub returns : goal.returns
returns c = shared_victims
