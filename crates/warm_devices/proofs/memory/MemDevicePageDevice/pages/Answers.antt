use Rattle.std.proofs.Common.{ap}
use Rattle.warm_devices.proofs.memory.MemDevicePageDevice.pages.Goals as goal

pub returns : goal.returns
returns c = ap (λ device. device.pages) c.self.view_is
