-- Replacing a device of a shard with another: what a visitor says of it, and what a thread has seen.
use Rattle.std.specs.Prelude.{ℕ, List}
use Rattle.boxcar.specs.declared.tag.Tag.{Tag}
use Rattle.warm_devices.specs.Device.{DeviceState}
use Rattle.warm_gossip.specs.declared.fault.NodeFault.TheVariants.{Pool}
use Rattle.warm_shard_machine.specs.declared.calls.ShardCall.TheVariants.{Retire}
use Rattle.warm_shard_machine.specs.declared.calls.ShardReply.TheVariants.{Refused, Replaced}
use Rattle.warm_concurrent.specs.declared.fault.SharedFault.{SharedFault}
use Rattle.warm_concurrent.specs.declared.fault.SharedFault.TheVariants.{Node, TurnsSpent}
use Rattle.warm_concurrent.specs.Attached.{ShardPass}
use Rattle.warm_concurrent.specs.Clauses.{AnsweredByShard, Spent}
use Rattle.warm_shard_machine.specs.ToldDevices.{IsTold}

-- the shard of this number replaced its device with one of this state, and gave the old one back,
-- in its state, in one turn; no other was entered
abbrev pub ReplacesAt : List ShardPass → ℕ → ℕ → DeviceState → DeviceState → List ShardPass → Type 0
ReplacesAt old i dev device was new = (told : Tag) × (given : Tag) × IsTold told device
    × IsTold given was × AnsweredByShard old i (Retire dev told) (Replaced given) new

-- the shard of this number replaced its device with one of this state, in one turn, and gave the old
-- one back; no other was entered
abbrev pub RetiresAt : List ShardPass → ℕ → ℕ → DeviceState → List ShardPass → Type 0
RetiresAt old i dev device new = (was : DeviceState) × ReplacesAt old i dev device was new

-- the shard of this number refused to replace its device, with a fault of its pool; or no ticket
-- was left
abbrev pub RetireFailsAt : List ShardPass → ℕ → ℕ → DeviceState → SharedFault → List ShardPass
    → Type 0
RetireFailsAt old i dev device (Node (Pool fault)) new = (told : Tag) × IsTold told device
    × AnsweredByShard old i (Retire dev told) (Refused (Pool fault)) new
RetireFailsAt old i dev device TurnsSpent new = Spent old i new
RetireFailsAt old i dev device why new = ⊥
