-- The numbers and names of the faults. A frame's fault keeps its own, 1 to 11, and those of dumps
-- begin at 13.
use Rattle.std.specs.Prelude.{ℕ, List, codes}
use Rattle.warm_frames.specs.Faults.{fault_code, fault_name}
use Rattle.warm_dump.specs.declared.fault.DumpFault.{DumpFault}
use Rattle.warm_dump.specs.declared.fault.DumpFault.TheVariants.{Frame, CutShort, DigestsDiffer}
use Rattle.warm_dump.specs.declared.fault.DumpFault.TheVariants.{HorizonsDiffer, MoreFollows}
use Rattle.warm_dump.specs.declared.fault.DumpFault.TheVariants.{ReadFault, WriteFault}

-- the number of each fault of a dump
abbrev pub dump_fault_code : DumpFault → ℕ
dump_fault_code (Frame fault) = fault_code fault
dump_fault_code CutShort = 13
dump_fault_code DigestsDiffer = 14
dump_fault_code HorizonsDiffer = 15
dump_fault_code MoreFollows = 16
dump_fault_code ReadFault = 17
dump_fault_code WriteFault = 18

-- the name of each fault of a dump
abbrev pub dump_fault_name : DumpFault → List ℕ
dump_fault_name (Frame fault) = fault_name fault
dump_fault_name CutShort = codes "CutShort"
dump_fault_name DigestsDiffer = codes "DigestsDiffer"
dump_fault_name HorizonsDiffer = codes "HorizonsDiffer"
dump_fault_name MoreFollows = codes "MoreFollows"
dump_fault_name ReadFault = codes "ReadFault"
dump_fault_name WriteFault = codes "WriteFault"
