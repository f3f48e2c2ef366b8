-- Which faults end a play.
use Rattle.std.specs.Prelude.{List}
use Rattle.warm_devices.specs.Device.{DeviceState}
use Rattle.warm_world.specs.declared.play_fault.PlayFault.{PlayFault}
use Rattle.warm_world.specs.declared.play_fault.PlayFault.TheVariants.{Memory, ReadFault, WriteFault}
use Rattle.warm_world.specs.declared.play_fault.PlayFault.TheVariants.{BadDevices}
use Rattle.warm_world.specs.Opening.{AreFitting}
use Rattle.warm_world.specs.Sizes.{Sizes}

-- what stops the answering of lines: an allocation failure, or the writer
abbrev pub StopsAnswers : PlayFault → Type 0
StopsAnswers Memory = Unit {0}
StopsAnswers WriteFault = Unit {0}
StopsAnswers why = ⊥

-- what stops a running play: an allocation failure, the writer, or the reader
abbrev pub StopsPlay : PlayFault → Type 0
StopsPlay ReadFault = Unit {0}
StopsPlay why = StopsAnswers why

-- why a play does not begin: the devices do not fit the setup; or they do, and an allocation failed
abbrev pub OpeningRefused : Sizes → List (List DeviceState) → PlayFault → Type 0
OpeningRefused setup devices BadDevices = AreFitting setup devices → ⊥
OpeningRefused setup devices Memory = AreFitting setup devices
OpeningRefused setup devices why = ⊥

-- why a play does not reach its end: the devices do not fit the setup; or they do, and it was
-- stopped
abbrev pub PlayRefused : Sizes → List (List DeviceState) → PlayFault → Type 0
PlayRefused setup devices BadDevices = AreFitting setup devices → ⊥
PlayRefused setup devices why = AreFitting setup devices × StopsPlay why
