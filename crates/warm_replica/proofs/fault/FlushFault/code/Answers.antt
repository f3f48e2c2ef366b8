use Rattle.std.proofs.Common.{ap, sym}
use Rattle.warm_replica.specs.Faults.{flush_code}
use Rattle.warm_replica.proofs.fault.FlushFault.code.Goals as goal

pub returns-in-TurnsSpent : goal.returns-in-TurnsSpent
returns-in-TurnsSpent c = ap flush_code (sym c.in-TurnsSpent.is)
