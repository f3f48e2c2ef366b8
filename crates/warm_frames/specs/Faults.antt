-- The numbers and names of the refusals: of bytes that are no frame, and of messages with late
-- times.
use Rattle.std.specs.Prelude.{ℕ, List, codes}
use Rattle.warm_frames.specs.declared.fault.FrameFault.{FrameFault}
use Rattle.warm_frames.specs.declared.fault.FrameFault.TheVariants.{Memory, Truncated, BadMagic}
use Rattle.warm_frames.specs.declared.fault.FrameFault.TheVariants.{BadKind, BadSender, BadLength}
use Rattle.warm_frames.specs.declared.fault.FrameFault.TheVariants.{BadCount, BadTag, BadStamp}
use Rattle.warm_frames.specs.declared.fault.FrameFault.TheVariants.{BadOrder, Failed}
use Rattle.warm_frames.specs.declared.limit.TimeFault.{TimeFault}
use Rattle.warm_frames.specs.declared.limit.TimeFault.TheVariants.{LateHorizon, LateStamp}

-- the number of each reason for which bytes are no frame
abbrev pub fault_code : FrameFault → ℕ
fault_code Memory = 1
fault_code Truncated = 2
fault_code BadMagic = 3
fault_code BadKind = 4
fault_code BadSender = 5
fault_code BadLength = 6
fault_code BadCount = 7
fault_code BadTag = 8
fault_code BadStamp = 9
fault_code BadOrder = 10
fault_code Failed = 11

-- the name of each reason for which bytes are no frame
abbrev pub fault_name : FrameFault → List ℕ
fault_name Memory = codes "Memory"
fault_name Truncated = codes "Truncated"
fault_name BadMagic = codes "BadMagic"
fault_name BadKind = codes "BadKind"
fault_name BadSender = codes "BadSender"
fault_name BadLength = codes "BadLength"
fault_name BadCount = codes "BadCount"
fault_name BadTag = codes "BadTag"
fault_name BadStamp = codes "BadStamp"
fault_name BadOrder = codes "BadOrder"
fault_name Failed = codes "Failed"

-- the number of each reason for which the times of a message are too late
abbrev pub time_fault_code : TimeFault → ℕ
time_fault_code LateHorizon = 1
time_fault_code LateStamp = 2

-- the name of each reason for which the times of a message are too late
abbrev pub time_fault_name : TimeFault → List ℕ
time_fault_name LateHorizon = codes "LateHorizon"
time_fault_name LateStamp = codes "LateStamp"
