use Rattle.std.proofs.Common.{ap, sym}
use Rattle.warm_devices.specs.Faults.{device_fault_code}
use Rattle.warm_devices.proofs.fault.DeviceFault.code.Goals as goal

pub returns-in-Write : goal.returns-in-Write
returns-in-Write c = ap device_fault_code (sym c.in-Write.is)
