use Rattle.warm_gossip.proofs.LendingLemmas.{lent_bytes}
use Rattle.warm_gossip.proofs.laws.lent_bytes_are_written.Goals as goal

pub returns : goal.returns
returns c = lent_bytes
