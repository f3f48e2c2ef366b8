use Rattle.std.proofs.Common.{ap, sym}
use Rattle.warm_devices.specs.Faults.{open_fault_code}
use Rattle.warm_devices.proofs.fault.OpenFault.code.Goals as goal

pub returns-in-Open : goal.returns-in-Open
returns-in-Open c = ap open_fault_code (sym c.in-Open.is)
