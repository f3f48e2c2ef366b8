-- Why a dump is not written.
use Rattle.warm_frames.specs.declared.fault.FrameFault.TheVariants.{Memory}
use Rattle.warm_dump.specs.declared.fault.DumpFault.{DumpFault}
use Rattle.warm_dump.specs.declared.fault.DumpFault.TheVariants.{Frame, WriteFault}

-- there is no memory, or the writer fails
abbrev pub StopsWriting : DumpFault → Type 0
StopsWriting (Frame Memory) = Unit {0}
StopsWriting WriteFault = Unit {0}
StopsWriting why = ⊥
