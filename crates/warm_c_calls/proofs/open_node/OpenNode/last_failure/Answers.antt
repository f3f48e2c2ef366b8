use Rattle.std.proofs.Common.{refl, to_z, of_z, w32}
use Rattle.warm_c_calls.proofs.open_node.OpenNode.last_failure.Goals as goal

pub returns : goal.returns
returns c = (c.last_failure-failed.result, to_z w32 (of_z w32 c.error_of.result), c.put_failure.ensures, refl)
