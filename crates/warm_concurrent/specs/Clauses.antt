-- Definitions for the contracts of shared shards.
use Rattle.std.specs.Prelude.{◌≡◌, ℕ, ◌<◌, ◌≤◌, List, length, Result, Ok, Err}
use Rattle.warm_turn.specs.CallHistories.{Called, as_spent}
use Rattle.warm_gossip.specs.declared.fault.NodeFault.TheVariants.{StaleSlot}
use Rattle.warm_shard_machine.specs.declared.calls.ShardCall.{ShardCall}
use Rattle.warm_shard_machine.specs.declared.calls.ShardReply.{ShardReply}
use Rattle.warm_shard_machine.specs.declared.calls.ShardReply.TheVariants.{Done, Refused}
use Rattle.warm_concurrent.specs.declared.fault.SharedFault.{SharedFault}
use Rattle.warm_concurrent.specs.declared.fault.SharedFault.TheVariants.{Node, TurnsSpent}
use Rattle.warm_concurrent.specs.Attached.{KeepsOtherPasses, Known, ShardPass, known_of}
use Rattle.warm_shard_machine.specs.ShardSteps.{ShardStep}

-- Calls of one shard

-- the shard answered the call with this reply, in one turn
abbrev pub Got : Known → ShardCall → ShardReply → Known → Type 0
Got old call reply new = Called ShardStep old call reply new

-- the shard of this number answered the call with this reply, in one turn, and no other was entered
abbrev pub AnsweredByShard : List ShardPass → ℕ → ShardCall → ShardReply → List ShardPass → Type 0
AnsweredByShard old i call reply new = Got (known_of old i) call reply (known_of new i)
    × KeepsOtherPasses old i new

-- no ticket was left for a call of this shard
abbrev pub Spent : List ShardPass → ℕ → List ShardPass → Type 0
Spent old i new = (known_of new i ≡ as_spent (known_of old i)) × KeepsOtherPasses old i new

-- the shard of this number refused the call for this reason, or no ticket was left for it
abbrev pub CallFails : List ShardPass → ℕ → ShardCall → SharedFault → List ShardPass → Type 0
CallFails old i call (Node why) new = AnsweredByShard old i call (Refused why) new
CallFails old i call TurnsSpent new = Spent old i new
CallFails old i call why new = ⊥

-- the result of a call corresponds to the reply of the shard, or to its refusal
abbrev pub CallEnds : {T : Type 0} → List ShardPass → ℕ → ShardCall → (T → ShardReply)
    → Result T SharedFault → List ShardPass → Type 0
CallEnds old i call reply (Ok given) new = AnsweredByShard old i call (reply given) new
CallEnds old i call reply (Err why) new = CallFails old i call why new

-- the result of a call with a slot corresponds to the reply of the slot's shard, or to its refusal;
-- if there is no such shard, the slot is stale, and no turn was entered
abbrev pub SlotCallEnds : {T : Type 0} → List ShardPass → ℕ → ShardCall → (T → ShardReply)
    → Result T SharedFault → List ShardPass → Type 0
SlotCallEnds old i call reply result new =
    (i < length old → CallEnds old i call reply result new)
    × (length old ≤ i → (result ≡ Err (Node StaleSlot)) × (new ≡ old))

-- the reply to a call without a result
abbrev pub shard_done : {A : Type 0} → A → ShardReply
shard_done given = Done
