-- The number and the name of each refusal: of an event, and of the making of a world.
use Rattle.std.specs.Prelude.{ℕ, List, codes}
use Rattle.warm_gossip.specs.Faults as node_faults
use Rattle.warm_world.specs.declared.event.WorldFault.{WorldFault}
use Rattle.warm_world.specs.declared.event.WorldFault.TheVariants.{Node, NoSuchReplica}
use Rattle.warm_world.specs.declared.event.WorldFault.TheVariants.{NoSuchWorker, NoSuchFrame}
use Rattle.warm_world.specs.declared.event.BadWorld.{BadWorld}
use Rattle.warm_world.specs.declared.event.BadWorld.TheVariants.{Memory, SizeDiffers, DevicesDiffer}

-- the number of each reason why an event was refused
abbrev pub code_of : WorldFault → ℕ
code_of (Node why) = node_faults.code_of why
code_of NoSuchReplica = 14
code_of NoSuchWorker = 15
code_of NoSuchFrame = 16

-- the name of each reason why an event was refused
abbrev pub name_of : WorldFault → List ℕ
name_of (Node why) = node_faults.name_of why
name_of NoSuchReplica = codes "NoSuchReplica"
name_of NoSuchWorker = codes "NoSuchWorker"
name_of NoSuchFrame = codes "NoSuchFrame"

-- the number of each reason why a world was not made
abbrev pub bad_code_of : BadWorld → ℕ
bad_code_of Memory = 1
bad_code_of SizeDiffers = 3
bad_code_of DevicesDiffer = 17

-- the name of each reason why a world was not made
abbrev pub bad_name_of : BadWorld → List ℕ
bad_name_of Memory = codes "Memory"
bad_name_of SizeDiffers = codes "SizeDiffers"
bad_name_of DevicesDiffer = codes "DevicesDiffer"
