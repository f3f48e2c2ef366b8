use Rattle.warm_gossip.proofs.VictimLemmas.{replies_are_over_references}
use Rattle.warm_gossip.proofs.laws.replies_are_over_references.Goals as goal

pub returns : goal.returns
returns c = replies_are_over_references
