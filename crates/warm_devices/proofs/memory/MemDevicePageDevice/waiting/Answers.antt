use Rattle.std.proofs.Common.{ap}
use Rattle.warm_devices.proofs.memory.MemDevicePageDevice.waiting.Goals as goal

pub returns : goal.returns
returns c = ap (λ device. device.waiting) c.self.view_is
