use Rattle.warm_concurrent.proofs.ClosedShardLemmas.{shared_is_of_given}
use Rattle.warm_shard_machine.proofs.NodeStepLemmas.{shard_is_of_given}
use Rattle.warm_concurrent.proofs.LawLemmas.{together_are_of_given}
use Rattle.warm_concurrent.proofs.laws.shards_are_of_given.Goals as goal

pub returns : goal.returns
returns c = record { shard = shard_is_of_given; together = together_are_of_given; closed = shared_is_of_given }
