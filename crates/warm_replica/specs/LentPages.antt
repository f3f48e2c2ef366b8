-- Looking at the page of a slot and changing it where it lies: what a node does, what a visitor
-- says of it, and what a worker has seen of it.
use Rattle.std.specs.Prelude.{◌≡◌, ℕ, List, length, Option, Some, None}
use Rattle.warm_turn.specs.declared.table.View.{View}
use Rattle.warm_turn.specs.CallHistories.{Called, as_spent}
use Rattle.warm_pool.specs.declared.slot.Slot.{Slot}
use Rattle.warm_pool.specs.PageBytes.{IsLent, MakesDirty}
use Rattle.warm_pool.specs.View.{view_of}
use Rattle.warm_gossip.specs.declared.call.Call.{Call}
use Rattle.warm_gossip.specs.declared.call.Call.TheVariants.{Read, Write}
use Rattle.warm_gossip.specs.declared.call.Reply.{Reply}
use Rattle.warm_gossip.specs.declared.call.Reply.TheVariants.{Bytes, Done, Refused}
use Rattle.warm_gossip.specs.declared.fault.NodeFault.TheVariants as node_fault
use Rattle.warm_gossip.specs.Clauses.{Goes}
use Rattle.warm_gossip.specs.State.{NodeState, NodeView}
use Rattle.warm_gossip.specs.Step.{Step}
use Rattle.warm_replica.specs.declared.fault.LendFault.{LendFault}
use Rattle.warm_replica.specs.declared.fault.LendFault.TheVariants.{StaleSlot, TurnsSpent}

-- A node

-- these are all bytes of the slot's page, and a read of them gives them
pub record SlotShown (s : NodeState) (slot : Slot) (bytes : List ℕ) : Type 0 where
  pub lends : IsLent (view_of s.pool) slot bytes
  pub reads : Goes s (Read slot 0 (length bytes)) (Bytes bytes) s

-- all bytes of the slot's page were these before. What was left in them is as after a write of it,
-- and the page is dirty
pub record SlotChanged (old : NodeState) (slot : Slot) (before after : List ℕ) (new : NodeState)
    : Type 0 where
  pub lends : IsLent (view_of old.pool) slot before
  pub size : length after ≡ length before
  pub writes : Goes old (Write slot 0 after) Done new
  pub dirty : MakesDirty old.pool slot new.pool

-- A visit

-- the slot doesn't hold its page: a read of no bytes is refused
abbrev pub IsStaleBy : Slot → Call → Reply → Type 0
IsStaleBy slot call reply = (call ≡ Read slot 0 0) × (reply ≡ Refused node_fault.StaleSlot)

-- How a look went, as the call and the reply say: bytes were shown of which `so` holds, and they
-- are what a read of as many from the first on gives; or the slot doesn't hold its page
abbrev pub LooksBy : {T : Type 0} → Slot → (T → List ℕ → Type 0) → Option T → Call → Reply → Type 0
LooksBy slot so (Some given) call reply = (bytes : List ℕ) × so given bytes
    × (call ≡ Read slot 0 (length bytes)) × (reply ≡ Bytes bytes)
LooksBy slot so None call reply = IsStaleBy slot call reply

-- How a change went, as the call and the reply say: `so` holds of the bytes before and of as many
-- after, and the latter are written from the first on; or the slot doesn't hold its page
abbrev pub ChangesBy : {T : Type 0} → Slot → (T → List ℕ → List ℕ → Type 0) → Option T → Call
    → Reply → Type 0
ChangesBy slot so (Some given) call reply = (before : List ℕ) × (after : List ℕ)
    × so given before after × (length after ≡ length before) × (call ≡ Write slot 0 after)
    × (reply ≡ Done)
ChangesBy slot so None call reply = IsStaleBy slot call reply

-- A worker

-- what a pass of a node knows
abbrev pub NodeKnown : Type 0
NodeKnown = View NodeView Call Reply

-- In one turn the replica showed bytes of which `so` holds: those that a read of as many gives,
-- from the first of the slot's page on
pub record WorkerLooks (old : NodeKnown) (slot : Slot) (so : List ℕ → Type 0) (new : NodeKnown)
    : Type 0 where
  pub bytes : List ℕ
  pub shown : so bytes
  pub read : Called Step old (Read slot 0 (length bytes)) (Bytes bytes) new

-- In one turn the replica let bytes be changed, and `so` holds of them before and after. What was
-- left in them is written, from the first of the slot's page on
pub record WorkerChanges (old : NodeKnown) (slot : Slot) (so : List ℕ → List ℕ → Type 0)
    (new : NodeKnown) : Type 0 where
  pub before : List ℕ
  pub after : List ℕ
  pub left : so before after
  pub size : length after ≡ length before
  pub wrote : Called Step old (Write slot 0 after) Done new

-- Why no bytes were lent, and what has then changed: the slot doesn't hold its page, and a read of
-- no bytes was refused in one turn; or no ticket was left
abbrev pub LendFails : NodeKnown → Slot → LendFault → NodeKnown → Type 0
LendFails old slot StaleSlot new =
    Called Step old (Read slot 0 0) (Refused node_fault.StaleSlot) new
LendFails old slot TurnsSpent new = new ≡ as_spent old
