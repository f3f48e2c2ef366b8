use denote.Param.Send.{sendable}
use Rattle.warm_replica.proofs.job_threads.fn.run_prepared.scope.Goals as goal

pub fan_out-requires-clause-send : goal.fan_out-requires-clause-send
fan_out-requires-clause-send g c = let m = c.requires.0 in let r = c.requires.1 in let q = c.requires.2 in search (sendable, m, r, q) depth 20
