use Rattle.std.proofs.Common.{ap, sym}
use Rattle.warm_frames.specs.Faults.{fault_code}
use Rattle.warm_frames.proofs.fault.FrameFault.code.Goals as goal

pub returns-in-BadOrder : goal.returns-in-BadOrder
returns-in-BadOrder c = ap fault_code (sym c.in-BadOrder.is)
