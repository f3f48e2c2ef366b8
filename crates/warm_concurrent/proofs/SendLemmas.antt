-- If devices may go to another thread, so may what a thread has of shards, and shards may be
-- shared.
use denote.RattleType.{RattleType}
use denote.Param.Send.{IsSend, IsSync, sendable, struct_send}
use denote.Struct.Struct.{Struct}
use denote.Struct.Declared as Declared
use Rattle.std.proofs.Crossing.{crosses, Vec-send}
use Rattle.warm_devices.specs.declared.device.PageDevice.{Ghosts}
use Rattle.warm_turn.specs.contracts.turn.Pass as Pass
use Rattle.warm_shard_machine.specs.contracts.calls.ShardCall as ShardCall
use Rattle.warm_shard_machine.specs.contracts.calls.ShardReply as ShardReply
use Rattle.warm_shard_machine.specs.contracts.shard.StateOfShard as StateOfShard
use Rattle.warm_turn.proofs.SendLemmas.{pass_send, turn_sync}
use Rattle.warm_shard_machine.proofs.SendLemmas.{shard_machine, shard_send}
use Rattle.warm_shard_machine.specs.contracts.shard.Shard as Shard
use Rattle.warm_concurrent.specs.contracts.shared.Attached as Attached
use Rattle.warm_concurrent.specs.contracts.shared.Attached.TheInside as AttachedInside
use Rattle.warm_concurrent.specs.contracts.shared.SharedShards as SharedShards
use Rattle.warm_concurrent.specs.contracts.shared.SharedShards.TheInside as SharedInside

pub attached_send : (D : RattleType) (g : Ghosts D.Denot) → IsSend D
    → IsSend (Attached.the_row D g)
attached_send D g s =
    let pass : IsSend (Pass.the_row (Shard.the_row D g) ShardCall.the_row ShardReply.the_row StateOfShard.the_row shard_machine) =
    pass_send (Shard.the_row D g) ShardCall.the_row ShardReply.the_row StateOfShard.the_row shard_machine (shard_send D g s) in
    let passes = Vec-send (Pass.the_row (Shard.the_row D g) ShardCall.the_row ShardReply.the_row StateOfShard.the_row shard_machine) pass in
    let fields : IsSend (Struct (Declared.shape (AttachedInside.the_type D g))) =
    struct_send (Declared.shape (AttachedInside.the_type D g)) (passes, (search (sendable, crosses) depth 20, tt)) in
    let inner : IsSend (AttachedInside.the_row D g) = search (sendable, fields) depth 20 in
    search (sendable, inner) depth 20

pub shards_sync : (D : RattleType) (g : Ghosts D.Denot) → IsSend D
    → IsSync (SharedShards.the_row D g)
shards_sync D g s =
    let shard = shard_send D g s in
    let fields : IsSync (Struct (Declared.shape (SharedInside.the_type D g))) = search (sendable, crosses, turn_sync, shard) depth 20 in
    let inner : IsSync (SharedInside.the_row D g) = search (sendable, fields) depth 20 in
    search (sendable, inner) depth 20
