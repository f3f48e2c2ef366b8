-- Calls that go to each shard, from the first on, and stop if one refuses.
use Rattle.std.specs.Prelude.{◌≡◌, ◌⊎◌, ℕ, ◌<◌, ◌≤◌, false, List, [], length}
use Rattle.std.specs.Prelude.{slice_index_or}
use Rattle.warm_history.specs.Histories.{history_of_entries_at}
use Rattle.warm_pool.specs.Calls.{FlushesNone}
use Rattle.warm_pool.specs.Forgetting.{ForgetRefused, Forgets, MayForget}
use Rattle.warm_frame_table.specs.Frames.{nth_frame}
use Rattle.warm_pool.specs.Retiring.{Emptied}
use Rattle.warm_pool.specs.State.{IsSettled, PoolState}
use Rattle.warm_pool.specs.View.{IsFixed, IsUnfixed, view_of}
use Rattle.warm_pool.specs.WritingBack.{WriteBackFails}
use Rattle.warm_pool.specs.WritingSome.{SomeFails}
use Rattle.warm_pool.specs.declared.fault.PoolFault.TheVariants.{Fault, Fixed}
use Rattle.warm_gossip.specs.declared.call.Call.TheVariants.{Restart}
use Rattle.warm_gossip.specs.declared.call.Reply.TheVariants.{Done}
use Rattle.warm_gossip.specs.declared.fault.NodeFault.{NodeFault}
use Rattle.warm_gossip.specs.declared.fault.NodeFault.TheVariants.{Pool}
use Rattle.warm_gossip.specs.Clauses.{Goes, OfPool, SameView}
use Rattle.warm_gossip.specs.Engine.{KeepsKnown}
use Rattle.warm_gossip.specs.State.{NodeState, node_view}
use Rattle.warm_gossip.specs.Step.{IsFailed, OnPool}
use Rattle.warm_visits.specs.Given.{IsGiven, at_horizon}
use Rattle.warm_shards.specs.Shards.{no_shard, shard_at, whole}

-- each shard has changed as `change` says
pub record OfEach (change : NodeState → NodeState → Type 0) (old new : List NodeState)
    : Type 0 where
  pub count : length new ≡ length old
  pub each : (i : ℕ) → i < length old → change (shard_at old i) (shard_at new i)

-- `So` holds of each item below k, before and after. The others are unchanged. Beyond the last item
-- one reads `none`.
pub record First {A : Type 0} (none : A) (So : ℕ → A → A → Type 0) (k : ℕ) (old new : List A)
    : Type 0 where
  pub count : length new ≡ length old
  pub first : (i : ℕ) → i < k → So i (slice_index_or old i none) (slice_index_or new i none)
  pub others : (i : ℕ) → k ≤ i → slice_index_or new i none ≡ slice_index_or old i none

-- the first k shards have changed as `change` says, and the others are unchanged
abbrev pub OfFirst : (NodeState → NodeState → Type 0) → ℕ → List NodeState → List NodeState → Type 0
OfFirst change k old new = First no_shard (λ i. change) k old new

-- The call stopped at one shard. The shards before it have changed as `done` says, this shard as
-- `fails` says, and the shards after it as `left` says.
pub record StopsAtShard (done fails left : NodeState → NodeState → Type 0)
    (old new : List NodeState) : Type 0 where
  pub count : length new ≡ length old
  pub shard : ℕ
  pub there : shard < length old
  pub before : (i : ℕ) → i < shard → done (shard_at old i) (shard_at new i)
  pub at : fails (shard_at old shard) (shard_at new shard)
  pub after : (i : ℕ) → shard < i → i < length old → left (shard_at old i) (shard_at new i)

-- the shard is unchanged
abbrev pub IsUnchanged : NodeState → NodeState → Type 0
IsUnchanged old new = new ≡ old

-- Forgetting pages

-- the shard forgot the pages of a device from a number on; its history is unchanged
abbrev pub ShardForgetsPages : ℕ → ℕ → NodeState → NodeState → Type 0
ShardForgetsPages dev from old new = KeepsKnown old new × Forgets old.pool dev from new.pool

-- each shard may forget these pages
abbrev pub MayForgetEach : ℕ → ℕ → List NodeState → Type 0
MayForgetEach dev from shards = (i : ℕ) → i < length shards
    → MayForget (shard_at shards i).pool dev from

-- some shard may not forget these pages, for this reason
pub record ForgetIsRefused (dev from : ℕ) (why : NodeFault) (shards : List NodeState) : Type 0 where
  pub shard : ℕ
  pub there : shard < length shards
  pub refuses : let pool = (shard_at shards shard).pool in
      OfPool (λ fault. ForgetRefused pool dev from fault pool) why

-- Writing back

-- no frame is dirty
abbrev pub IsClean : PoolState → Type 0
IsClean s = (i : ℕ) → (nth_frame s.frames i).dirty ≡ false

-- all dirty pages of the shard were written back; no device was flushed
abbrev pub IsWritten : NodeState → NodeState → Type 0
IsWritten old new = SameView old new × IsClean new.pool
    × FlushesNone old.pool.devices new.pool.devices

-- the write of one page failed, after those of the frames before it; other pages are as they were
abbrev pub ShardWriteFails : NodeState → NodeState → Type 0
ShardWriteFails old new = KeepsKnown old new × SomeFails (length old.pool.frames) old.pool new.pool

-- all dirty pages were written back, and the devices were flushed
abbrev pub ShardSettles : NodeState → NodeState → Type 0
ShardSettles old new = SameView old new × IsSettled new.pool

-- a call of a device failed: of what a caller sees only its count of failures has changed, and the
-- pages written before it are clean
abbrev pub DeviceFails : NodeState → NodeState → Type 0
DeviceFails old new = OnPool IsFailed (node_view old) (node_view new)
    × WriteBackFails old.pool new.pool

-- a flush failed: of what a caller sees only the count of failures of its device has changed, and
-- no page of the shard is dirty
abbrev pub ShardFlushFails : NodeState → NodeState → Type 0
ShardFlushFails old new = OnPool IsFailed (node_view old) (node_view new) × IsClean new.pool

-- A page of one shard was not written: the shards before it have written theirs, and those after it
-- are unchanged. Or all shards have written theirs, and a device of one was not flushed: those
-- before it are settled.
abbrev pub WriteBackStops : List NodeState → List NodeState → Type 0
WriteBackStops old new = StopsAtShard IsWritten ShardWriteFails IsUnchanged old new
    ⊎ StopsAtShard ShardSettles ShardFlushFails IsWritten old new

-- Restarting

-- the shard restarted: no frame of it is dirty, and no device unflushed
abbrev pub ShardRestarts : NodeState → NodeState → Type 0
ShardRestarts old new = Goes old Restart Done new × IsSettled new.pool

-- no page of any shard is pinned
abbrev pub ShardsAreUnfixed : List NodeState → Type 0
ShardsAreUnfixed shards = (i : ℕ) → i < length shards → IsUnfixed (view_of (shard_at shards i).pool)

-- a page of some shard is pinned
pub record HasFixed (shards : List NodeState) : Type 0 where
  pub shard : ℕ
  pub there : shard < length shards
  pub fixed : IsFixed (view_of (shard_at shards shard).pool)

-- the horizon of the shard is this one, if that is later
abbrev pub Rises : ℕ → NodeState → NodeState → Type 0
Rises time = IsGiven (at_horizon time)

-- the shard has restarted, but it has this horizon
pub record HasForgotten (horizon : ℕ) (old new : NodeState) : Type 0 where
  pub id : new.id ≡ old.id
  pub history : new.history ≡ history_of_entries_at horizon []
  pub emptied : Emptied (view_of old.pool) (view_of new.pool)
  pub settled : IsSettled new.pool

-- Not all pages could be written back, and nothing was forgotten. Or all were, and a device of one
-- shard failed as it restarted: those before it have forgotten their references, at the horizon of
-- all.
abbrev pub RestartStops : List NodeState → List NodeState → Type 0
RestartStops old new = WriteBackStops old new
    ⊎ StopsAtShard (HasForgotten (whole old).horizon) ShardFlushFails ShardSettles old new

-- why shards do not restart: a page is pinned, and nothing has changed; or none is, and a device
-- failed
abbrev pub RestartRefused : List NodeState → NodeFault → List NodeState → Type 0
RestartRefused old (Pool Fixed) new = HasFixed old × (new ≡ old)
RestartRefused old (Pool Fault) new = ShardsAreUnfixed old × RestartStops old new
RestartRefused old why new = ⊥
