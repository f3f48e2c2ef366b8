-- The numbers and names of the faults.
use Rattle.std.specs.Prelude.{ℕ, List, codes}
use Rattle.std.specs.declared.io.ErrorKind.{ErrorKind}
use Rattle.std.specs.declared.io.ErrorKind.TheVariants.{OutOfMemory}
use Rattle.warm_devices.specs.declared.fault.DeviceFault.{DeviceFault}
use Rattle.warm_devices.specs.declared.fault.DeviceFault.TheVariants.{Read, Write, Flush}
use Rattle.warm_devices.specs.declared.fault.OpenFault.{OpenFault}
use Rattle.warm_devices.specs.declared.fault.OpenFault.TheVariants.{Memory, Open}

-- the number of each fault of a device
abbrev pub device_fault_code : DeviceFault → ℕ
device_fault_code Read = 1
device_fault_code Write = 2
device_fault_code Flush = 3

-- the name of each fault of a device
abbrev pub device_fault_name : DeviceFault → List ℕ
device_fault_name Read = codes "Read"
device_fault_name Write = codes "Write"
device_fault_name Flush = codes "Flush"

-- the number of each reason for which a file is not opened
abbrev pub open_fault_code : OpenFault → ℕ
open_fault_code Memory = 1
open_fault_code Open = 2

-- the name of each reason for which a file is not opened
abbrev pub open_fault_name : OpenFault → List ℕ
open_fault_name Memory = codes "Memory"
open_fault_name Open = codes "Open"

-- the fault for a file that was not opened, by the kind of the system's error
abbrev pub open_fault_of : ErrorKind → OpenFault
open_fault_of OutOfMemory = Memory
open_fault_of kind = Open
