use Rattle.warm_shard_machine.proofs.EnteringLemmas.{errands_are_calls}
use Rattle.warm_shard_machine.proofs.laws.errands_are_calls.Goals as goal

pub returns : goal.returns
returns c = errands_are_calls
