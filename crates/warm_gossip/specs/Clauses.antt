-- Definitions for the contracts of nodes.
use Rattle.std.specs.Prelude.{◌≡◌, ℕ, List, length, Some, Result, Ok, Err}
use Rattle.warm_history.specs.Entry.{Entry}
use Rattle.warm_history.specs.Histories.{HistoryView, history_of_entries_at, join}
use Rattle.warm_stamps.specs.declared.PageId.{PageId}
use Rattle.warm_pool.specs.declared.fault.PoolFault.{PoolFault}
use Rattle.warm_pool.specs.declared.fault.PoolFault.TheVariants.{Fault}
use Rattle.warm_pool.specs.Unchanged.{KeepsBytes, KeepsFrames}
use Rattle.warm_pool.specs.PageBytes.{MakesDirty}
use Rattle.warm_pool.specs.Pinning.{LeavesDevices, TakesFrame}
use Rattle.warm_pool.specs.State.{IsSettled}
use Rattle.warm_pool.specs.WritingBack as writing_back
use Rattle.warm_pool.specs.declared.slot.Slot.{Slot}
use Rattle.warm_gossip.specs.declared.call.Call.{Call}
use Rattle.warm_gossip.specs.declared.call.Call.TheVariants.{Absorb, Pin, Read, Write, WarmStep}
use Rattle.warm_gossip.specs.declared.call.Call.TheVariants.{Restart}
use Rattle.warm_gossip.specs.declared.call.Reply.{Reply}
use Rattle.warm_gossip.specs.declared.call.Reply.TheVariants.{Done, Pinned, Loaded, Refused}
use Rattle.warm_gossip.specs.declared.fault.NodeFault.{NodeFault}
use Rattle.warm_gossip.specs.declared.fault.NodeFault.TheVariants.{Memory, Pool}
use Rattle.warm_gossip.specs.State.{NodeState, node_view}
use Rattle.warm_gossip.specs.Step.{IsFailed, IsNextWarm, OnPool, Step}

-- the step of this call with this reply leads from the old node to the new one
abbrev pub Goes : NodeState → Call → Reply → NodeState → Type 0
Goes old call reply new = Step (node_view old) call reply (node_view new)

-- any call but one that absorbs references
abbrev pub IsOtherThanAbsorb : Call → Type 0
IsOtherThanAbsorb (Absorb batch) = ⊥
IsOtherThanAbsorb call = Unit {0}

-- the reply to a call without a result
abbrev pub done : {A : Type 0} → A → Reply
done given = Done

-- the result of a call corresponds to its reply, made from the result, or to its refusal
abbrev pub Answered : {T : Type 0} → NodeState → Call → (T → Reply) → Result T NodeFault → NodeState
    → Type 0
Answered old call reply (Ok given) new = Goes old call (reply given) new
Answered old call reply (Err why) new = Goes old call (Refused why) new

-- a caller sees no change
abbrev pub SameView : NodeState → NodeState → Type 0
SameView old new = node_view new ≡ node_view old

-- the node has taken these entries in
abbrev pub JoinsEntries : NodeState → ℕ → List Entry → NodeState → Type 0
JoinsEntries old horizon entries new = node_view new
    ≡ record (node_view old) { history = join old.history (history_of_entries_at horizon entries) }

-- the node has taken in all that another history stands for, at the later horizon of both
abbrev pub Joins : NodeState → HistoryView → NodeState → Type 0
Joins old other new = node_view new ≡ record (node_view old) { history = join old.history other }

-- a page could not be written to its device, or a device could not be flushed
abbrev pub NodeWriteBackFails : NodeState → NodeFault → NodeState → Type 0
NodeWriteBackFails old why new = (why ≡ Pool Fault)
    × OnPool IsFailed (node_view old) (node_view new)

-- a refusal of the pool, of whose fault this holds
abbrev pub OfPool : (PoolFault → Type 0) → NodeFault → Type 0
OfPool holds (Pool fault) = holds fault
OfPool holds why = ⊥

-- the pool after a refused pin: frames are unchanged, and devices are as after a refused pin of the
-- pool
abbrev pub PinLeaves : NodeState → PageId → NodeFault → NodeState → Type 0
PinLeaves old page (Pool fault) new = KeepsFrames old.pool new.pool
    × LeavesDevices old.history old.pool page fault new.pool
PinLeaves old page why new = ⊥

-- The devices and the dirty flags of frames after a call with this reply. A pin and a warm-up step
-- do with them what the pool does as it pins or loads the page; a write makes its frame dirty; a
-- restart leaves no frame dirty and no device unflushed. Any other call, refused or not, leaves all
-- devices, and the dirty flag and the bytes of each frame, as they were.
abbrev pub DevicesAfter : NodeState → Call → Reply → NodeState → Type 0
DevicesAfter old (Pin p) (Pinned slot) new = TakesFrame old.pool p slot new.pool
DevicesAfter old (Pin p) (Refused why) new = PinLeaves old p why new
DevicesAfter old (Write slot at bytes) Done new = MakesDirty old.pool slot new.pool
DevicesAfter old WarmStep (Loaded (Some p)) new = (slot : Slot)
    × TakesFrame old.pool p slot new.pool
DevicesAfter old WarmStep (Refused (Pool fault)) new = (p : PageId)
    × IsNextWarm (node_view old) (Some p) × PinLeaves old p (Pool fault) new
DevicesAfter old Restart Done new = IsSettled new.pool
DevicesAfter old Restart (Refused (Pool Fault)) new = writing_back.WriteBackFails old.pool new.pool
DevicesAfter old call reply new = KeepsBytes old.pool new.pool

-- the devices and the dirty flags of frames after a call whose result corresponds to its reply
abbrev pub DevicesAnswered : {T : Type 0} → NodeState → Call → (T → Reply) → Result T NodeFault
    → NodeState → Type 0
DevicesAnswered old call reply (Ok given) new = DevicesAfter old call (reply given) new
DevicesAnswered old call reply (Err why) new = DevicesAfter old call (Refused why) new

-- why no bytes were read into a buffer, which is as it was: a call that reads as many is refused
-- so, though never for memory
abbrev pub ReadIntoFails : NodeState → Slot → ℕ → List ℕ → NodeFault → List ℕ → Type 0
ReadIntoFails s slot at old Memory new = ⊥
ReadIntoFails s slot at old why new = Goes s (Read slot at (length old)) (Refused why) s
    × (new ≡ old)
