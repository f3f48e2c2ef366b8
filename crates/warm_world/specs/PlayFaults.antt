-- The numbers and names of the faults of a play.
use Rattle.std.specs.Prelude.{ℕ, List, codes}
use Rattle.warm_world.specs.declared.play_fault.PlayFault.{PlayFault}
use Rattle.warm_world.specs.declared.play_fault.PlayFault.TheVariants.{Memory, ReadFault, WriteFault}
use Rattle.warm_world.specs.declared.play_fault.PlayFault.TheVariants.{BadLine, NoThread, BadDevices}

-- the number of each fault that ends a play
abbrev pub play_fault_code : PlayFault → ℕ
play_fault_code Memory = 1
play_fault_code ReadFault = 2
play_fault_code WriteFault = 3
play_fault_code (BadLine number) = 4
play_fault_code NoThread = 5
play_fault_code BadDevices = 6

-- the name of each fault that ends a play
abbrev pub play_fault_name : PlayFault → List ℕ
play_fault_name Memory = codes "Memory"
play_fault_name ReadFault = codes "ReadFault"
play_fault_name WriteFault = codes "WriteFault"
play_fault_name (BadLine number) = codes "BadLine"
play_fault_name NoThread = codes "NoThread"
play_fault_name BadDevices = codes "BadDevices"
