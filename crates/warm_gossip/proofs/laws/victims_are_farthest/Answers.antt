use Rattle.warm_gossip.proofs.VictimLemmas.{victims_are_farthest}
use Rattle.warm_gossip.proofs.laws.victims_are_farthest.Goals as goal

pub returns : goal.returns
returns c = victims_are_farthest
