use Rattle.std.proofs.Common.{ap, sym}
use Rattle.warm_replica.specs.Faults.{lend_code}
use Rattle.warm_replica.proofs.fault.LendFault.code.Goals as goal

pub returns-in-TurnsSpent : goal.returns-in-TurnsSpent
returns-in-TurnsSpent c = ap lend_code (sym c.in-TurnsSpent.is)
