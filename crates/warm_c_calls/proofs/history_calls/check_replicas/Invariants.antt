use Rattle.std.proofs.Common.{take}
use Rattle.warm_c_calls.specs.Calls.{AreOfReplicas}
use Rattle.warm_c_calls.proofs.history_calls.check_replicas.Given as goal

-- the references so far are of replicas
abbrev pub invariant-loop-reference : goal.invariant-loop-reference
invariant-loop-reference l = AreOfReplicas (take l.reference-index l.batch)
