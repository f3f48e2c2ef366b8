use Rattle.warm_shard_machine.proofs.NodeStepLemmas.{calls_are_a_nodes}
use Rattle.warm_shard_machine.proofs.laws.calls_are_a_nodes.Goals as goal

pub returns : goal.returns
returns c = calls_are_a_nodes
