-- Pins: which calls give and remove them, and how many are left.
--
-- A frame has a pin count, and a slot names a frame. Neither says who pinned it: a thread may unpin
-- what another pinned. So the count of a thread does not say which pages are pinned. There are
-- three laws.
--
-- Of a shard (`PinsAreGiven`): a legal list of its calls leads from the pins of its pool to these,
-- one more for each pin and one less for each unpin that it answered.
--
-- Of a thread (`PinsAreCounted`): its count is that of its calls, of all shards, and of the calls of
-- the threads that were detached into it.
--
-- Of a close (`PinsComeBack`) by the thread that is left: the log of each shard has just these
-- calls. So the nodes together have the pins with which they opened, and as many as the thread
-- counts. While two threads are attached, no law says that the pools have as many as both count.
--
-- `detach` and `close` refuse a thread whose count is not 0 with `PinsHeld`, and change nothing. So
-- after a close no page is pinned, if none was when the shards opened (`ClosesUnpinned`, a clause of
-- `close`).
--
-- A look and a change pin and unpin in one turn, and count as neither. For example, A pins p, and B
-- pins q: each counts 1, and the pools have 2 pins. B unpins the slot of A: A counts 1, B counts 0,
-- and q alone is pinned. The slot of A is stale, and A cannot be detached, until it unpins the slot
-- of B. Then no page is pinned. `proofs/PinExamples.antt` computes the counts, and `TwoThreadsUnpin`
-- says it of any pages, slots and shards.
use Rattle.std.specs.Prelude.{◌≡◌, ℕ, ◌+◌, ◌<◌, List, ◌++◌, length, map, Result, Ok}
use Rattle.std.specs.List.{flat_map, sum_by}
use Rattle.warm_turn.specs.declared.fault.Busy.{Busy}
use Rattle.warm_pool.specs.State.{IsPool}
use Rattle.warm_pool.specs.View.{IsUnfixed, view_of}
use Rattle.warm_pool.specs.declared.slot.Slot.{Slot}
use Rattle.warm_stamps.specs.declared.PageId.{PageId}
use Rattle.warm_gossip.specs.State.{NodeState}
use Rattle.warm_shards.specs.Shards.{shard_at}
use Rattle.warm_visits.specs.Visits.{VisitState}
use Rattle.warm_shard_machine.specs.declared.calls.ShardCall.{ShardCall}
use Rattle.warm_shard_machine.specs.declared.calls.ShardCall.TheVariants.{Pin, Unpin}
use Rattle.warm_shard_machine.specs.declared.calls.ShardReply.{ShardReply}
use Rattle.warm_shard_machine.specs.declared.calls.ShardReply.TheVariants.{Done, Pinned}
use Rattle.warm_concurrent.specs.declared.fault.SharedFault.{SharedFault}
use Rattle.warm_concurrent.specs.Attached.{AreOf, AttachedView, Known, ShardPass, ShardTurn}
use Rattle.warm_concurrent.specs.Clauses.{AnsweredByShard, CallFails}
use Rattle.warm_shard_machine.specs.Laws.{Log}
use Rattle.warm_concurrent.specs.Opening.{AreClosed, AreFirst, AreHalved, AreSplit, PassesAreJoined}
use Rattle.warm_concurrent.specs.Opening.{openings, shards_over}
use Rattle.warm_concurrent.specs.Rights.{HasWholeRight}
use Rattle.warm_shard_machine.specs.Pins.{LeadsTo, pin_by, pins_by, pool_pins, unpin_by, unpins_by}
use Rattle.warm_concurrent.specs.Visiting.{GoesByTurns}
use Rattle.warm_concurrent.specs.Whole.{DoneFirst, RaisesFirst}

-- Nodes

-- the pins of the pools of these nodes, together
abbrev pub all_pins : List NodeState → ℕ
all_pins nodes = sum_by pool_pins nodes

-- no page of any of these nodes is pinned
abbrev pub NoneIsPinned : List NodeState → Type 0
NoneIsPinned nodes = (i : ℕ) → i < length nodes → IsUnfixed (view_of (shard_at nodes i).pool)

-- One thread

-- the calls of a pass, and of those that were ended into it
abbrev pub calls_held : Known → Log
calls_held known = known.mine ++ flat_map (λ e. e.calls) known.ended

-- the calls of a thread, of all shards, and of the threads that were detached into it
abbrev pub thread_calls : List ShardPass → Log
thread_calls passes = flat_map (λ p. calls_held p.view) passes

-- the count of a thread is right: its calls lead to it
abbrev pub IsCounted : AttachedView → Type 0
IsCounted thread = LeadsTo 0 (thread_calls thread.passes) thread.pins

-- the calls that a thread has made from old to new gave and removed these numbers of pins
pub record HasPinned (given removed : ℕ) (old new : List ShardPass) : Type 0 where
  pub pins : pins_by (thread_calls new) ≡ pins_by (thread_calls old) + given
  pub unpins : unpins_by (thread_calls new) ≡ unpins_by (thread_calls old) + removed

-- A call of one shard gives and removes what its reply says, and none if it is refused. Visits give
-- and remove none, however far they went, and neither do other calls of several shards: those too
-- that stop at a shard, which are such calls and one that is refused.
pub record CallsPin (old new : List ShardPass) : Type 0 where
  pub called : (i : ℕ) (call : ShardCall) (reply : ShardReply) → i < length old
      → AnsweredByShard old i call reply new
      → HasPinned (pin_by call reply) (unpin_by call reply) old new
  pub refused : (i : ℕ) (call : ShardCall) (why : SharedFault) → i < length old
      → CallFails old i call why new → HasPinned 0 0 old new
  pub visited : (v w : VisitState) → GoesByTurns v old w new → HasPinned 0 0 old new
  pub raised : (time k : ℕ) → RaisesFirst time k old new → HasPinned 0 0 old new
  pub done : (call : ShardCall) (k : ℕ) → unpin_by call Done ≡ 0 → DoneFirst call k old new
      → HasPinned 0 0 old new

-- A count that was right and changes as the calls do is right. So it stays right from `share` on:
-- what threads call, as they are attached, and as they are detached.
pub record PinsAreCounted : Type 0 where
  pub counts : (given removed : ℕ) (old new : AttachedView) → IsCounted old
      → HasPinned given removed old.passes new.passes
      → new.pins + removed ≡ old.pins + given → IsCounted new
  pub calls : (old new : List ShardPass) → CallsPin old new
  pub shared : (turns : List ShardTurn) (passes : List ShardPass) → AreFirst turns passes
      → IsCounted (record { passes = passes; pins = 0 })
  pub halved : (old new : List ShardPass) → AreHalved old new → HasPinned 0 0 old new
  pub attached : (old new : List ShardPass) → AreSplit old new
      → IsCounted (record { passes = new; pins = 0 })
  pub detached : (old new : List ShardPass) (other : AttachedView)
      → length other.passes ≡ length old → IsCounted other → other.pins ≡ 0
      → PassesAreJoined old other.passes new
      → (pins : ℕ) × HasPinned pins pins old new

-- A close

-- The thread that is left closes the shards: together the nodes have the pins of those with which
-- the shards opened, and as many as the thread counts.
abbrev pub PinsComeBack : Type 0
PinsComeBack = (opened : List NodeState) (turns : List ShardTurn) (thread : AttachedView)
    (nodes : List NodeState) → openings turns ≡ shards_over opened
    → ((i : ℕ) → i < length opened → IsPool (shard_at opened i).pool)
    → AreOf turns thread.passes → IsCounted thread → HasWholeRight (length turns) thread.passes
    → AreClosed turns thread.passes (map (λ n. Ok n) nodes)
    → all_pins nodes ≡ all_pins opened + thread.pins

-- If no page was pinned when the shards opened, and the thread that closes them has the whole right
-- to and a right count, each node is given back, and no page is pinned.
abbrev pub ClosesUnpinned : List ShardTurn → AttachedView → List (Result NodeState Busy) → Type 0
ClosesUnpinned turns thread results = (opened : List NodeState)
    → openings turns ≡ shards_over opened → NoneIsPinned opened
    → HasWholeRight (length turns) thread.passes → IsCounted thread
    → (nodes : List NodeState) × (results ≡ map (λ n. Ok n) nodes) × NoneIsPinned nodes

-- Two threads, used

-- A thread shares shards of which no page is pinned, and attaches another. Each pins a page, and
-- unpins the slot of the other. The other is detached into the first, which closes the shards: each
-- node is given back, and no page is pinned.
abbrev pub TwoThreadsUnpin : Type 0
TwoThreadsUnpin = (opened : List NodeState) (turns : List ShardTurn)
    (first here there mine yours done other all : List ShardPass) (i j : ℕ) (p q : PageId)
    (a b : Slot) (results : List (Result NodeState Busy)) → openings turns ≡ shards_over opened
    → NoneIsPinned opened → AreFirst turns first → AreHalved first here → AreSplit first there
    → i < length turns → j < length turns → AnsweredByShard here i (Pin p) (Pinned a) mine
    → AnsweredByShard there j (Pin q) (Pinned b) yours
    → AnsweredByShard mine j (Unpin b) Done done → AnsweredByShard yours i (Unpin a) Done other
    → PassesAreJoined done other all → AreOf turns all → AreClosed turns all results
    → (nodes : List NodeState) × (results ≡ map (λ n. Ok n) nodes) × NoneIsPinned nodes
