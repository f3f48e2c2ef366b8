use Rattle.warm_gossip.proofs.BatchLemmas.{batches_are_taken}
use Rattle.warm_gossip.proofs.laws.batches_are_taken.Goals as goal

pub returns : goal.returns
returns c = batches_are_taken
