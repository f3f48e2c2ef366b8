-- If devices may go to another thread, so may a shard.
use denote.RattleType.{RattleType}
use denote.Param.Send.{IsSend, sendable}
use Rattle.warm_devices.specs.declared.device.PageDevice.{Ghosts}
use Rattle.warm_machine.specs.declared.machine.Machine as Machine
use Rattle.warm_shard_machine.specs.contracts.calls.ShardCall as ShardCall
use Rattle.warm_shard_machine.specs.contracts.calls.ShardReply as ShardReply
use Rattle.warm_shard_machine.specs.ShardSteps.{ShardState, ShardStep}
use Rattle.warm_shard_machine.specs.contracts.shard.Shard as Shard
use Rattle.warm_shard_machine.proofs.shard.Shard.TheSendSync.{the_send}

pub shard_send : (D : RattleType) (g : Ghosts D.Denot) → IsSend D → IsSend (Shard.the_row D g)
shard_send D g s = search (sendable, the_send) depth 20

-- a shard is such a machine
abbrev pub shard_machine : Machine.Ghosts ShardState ShardCall.the_row.Denot ShardReply.the_row.Denot ShardState
shard_machine = record { view = λ s. s; goes = ShardStep }
