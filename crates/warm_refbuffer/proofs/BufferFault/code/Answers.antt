use Rattle.std.proofs.Common.{ap, sym}
use Rattle.warm_refbuffer.specs.Buffered.{code_of}
use Rattle.warm_refbuffer.proofs.BufferFault.code.Goals as goal

pub returns-in-BadCapacity : goal.returns-in-BadCapacity
returns-in-BadCapacity c = ap code_of (sym c.in-BadCapacity.is)
