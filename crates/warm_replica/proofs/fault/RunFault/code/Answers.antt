use Rattle.std.proofs.Common.{ap, sym}
use Rattle.warm_replica.specs.Faults.{run_code}
use Rattle.warm_replica.proofs.fault.RunFault.code.Goals as goal

pub returns-in-NoThread : goal.returns-in-NoThread
returns-in-NoThread c = ap run_code (sym c.in-NoThread.is)
