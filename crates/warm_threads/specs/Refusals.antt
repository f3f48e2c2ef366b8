-- Which faults end a play by threads.
use Rattle.std.specs.Prelude.{List}
use Rattle.warm_devices.specs.Device.{DeviceState}
use Rattle.warm_world.specs.declared.play_fault.PlayFault.{PlayFault}
use Rattle.warm_world.specs.declared.play_fault.PlayFault.TheVariants.{Memory, ReadFault, WriteFault}
use Rattle.warm_world.specs.declared.play_fault.PlayFault.TheVariants.{BadLine, NoThread, BadDevices}
use Rattle.warm_world.specs.Sizes.{Sizes}
use Rattle.warm_world.specs.Nodes.{AreUsable}

-- what stops the threads of a play: an allocation failure, a thread that can't be started, or a
-- replica that takes no mail
abbrev pub StopsRuns : PlayFault → Type 0
StopsRuns Memory = Unit {0}
StopsRuns NoThread = Unit {0}
StopsRuns why = ⊥

-- what stops a running play: an allocation failure, a thread that can't be started, a replica that
-- takes no mail, the reader, the writer, or a line that threads can't play
abbrev pub StopsThreads : PlayFault → Type 0
StopsThreads ReadFault = Unit {0}
StopsThreads WriteFault = Unit {0}
StopsThreads (BadLine number) = Unit {0}
StopsThreads why = StopsRuns why

-- why a play does not begin: the devices can't be used; or they can, and an allocation failed
abbrev pub ThreadsPlayRefused : Sizes → List (List DeviceState) → PlayFault → Type 0
ThreadsPlayRefused s devices BadDevices = AreUsable s devices → ⊥
ThreadsPlayRefused s devices Memory = AreUsable s devices
ThreadsPlayRefused s devices why = ⊥

-- why a play does not reach its end: the devices can't be used; or they can, and it was stopped
abbrev pub ThreadsRefused : Sizes → List (List DeviceState) → PlayFault → Type 0
ThreadsRefused s devices BadDevices = AreUsable s devices → ⊥
ThreadsRefused s devices why = AreUsable s devices × StopsThreads why
