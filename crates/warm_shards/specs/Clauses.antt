-- Definitions for the contracts of shards: what a call does to all of them together, and to one.
use Rattle.std.specs.Prelude.{◌≡◌, ◌≢◌, ◌⊎◌, ℕ, ◌<◌, List, [], length, Result, Ok, Err, slice_set}
use Rattle.warm_history.specs.ReferenceSets.{ReferenceSet, ◌∪◌}
use Rattle.warm_history.specs.Histories.{HistoryView, history, join, references_of}
use Rattle.warm_pool.specs.Unchanged.{KeepsBytes}
use Rattle.warm_pool.specs.View.{PoolView, view_of}
use Rattle.warm_gossip.specs.declared.call.Call.{Call}
use Rattle.warm_gossip.specs.declared.call.Reply.{Reply}
use Rattle.warm_gossip.specs.declared.call.Reply.TheVariants.{Refused}
use Rattle.warm_gossip.specs.declared.fault.NodeFault.{NodeFault}
use Rattle.warm_gossip.specs.Clauses.{SameView}
use Rattle.warm_gossip.specs.State.{NodeState}
use Rattle.warm_gossip.specs.Step.{Step}
use Rattle.warm_shards.specs.Shards.{as_node, shard_at, whole}
use Rattle.warm_visits.specs.ShardNumbers.{of_first_shards, of_shard}

-- Calls of the whole

-- All shards together go as the one node with all their references goes: the step of this call with
-- this reply leads it from the old history to the new one, whatever its pool is.
abbrev pub Together : List NodeState → Call → Reply → List NodeState → Type 0
Together old call reply new = (pool : PoolView)
    → Step (as_node old pool) call reply (as_node new pool)

-- all shards together go as the one node with all their references goes, for a call whose result
-- corresponds to its reply, or to its refusal
abbrev pub TogetherAnswered : {T : Type 0} → List NodeState → Call → (T → Reply)
    → Result T NodeFault → List NodeState → Type 0
TogetherAnswered old call reply (Ok given) new = Together old call (reply given) new
TogetherAnswered old call reply (Err why) new = Together old call (Refused why) new

-- all shards together have taken in all that another history stands for, at the later horizon of
-- both
abbrev pub JoinsAll : List NodeState → HistoryView → List NodeState → Type 0
JoinsAll old other new = (pool : PoolView)
    → as_node new pool ≡ record (as_node old pool) { history = join (whole old) other }

-- all shards together have taken in the references of S, at the later horizon of both, as one node
-- does
abbrev pub TakesInAll : List NodeState → ReferenceSet → List NodeState → Type 0
TakesInAll old S new = (pool : PoolView) → as_node new pool
    ≡ record (as_node old pool) { history = history (references_of (whole old) ∪ S) }

-- some reference of S is to a page of this shard
abbrev pub HasPart : ℕ → ℕ → ReferenceSet → Type 0
HasPart count i S = (of_shard count i S).given ≢ []

-- All shards have the horizon of S, if that is later. The shards before one have taken in the
-- references of S to their pages; that one and those after it have not. It is the first shard, or
-- one to whose pages there are references: so of references to pages of one shard none is taken in.
abbrev pub TakesInFirst : List NodeState → ReferenceSet → List NodeState → Type 0
TakesInFirst old S new = (k : ℕ) × (k < length old) × ((k ≡ 0) ⊎ HasPart (length old) k S)
    × (whole new ≡ history (references_of (whole old) ∪ of_first_shards (length old) k S))

-- of each shard: the pool that a caller sees is unchanged, and so are the devices, and the bytes
-- and the dirty flag of each frame
pub record KeepPools (old new : List NodeState) : Type 0 where
  pub count : length new ≡ length old
  pub views : (i : ℕ) → view_of (shard_at new i).pool ≡ view_of (shard_at old i).pool
  pub bytes : (i : ℕ) → KeepsBytes (shard_at old i).pool (shard_at new i).pool

-- of each shard a caller sees what it saw, and the devices are unchanged
pub record SameShards (old new : List NodeState) : Type 0 where
  pub count : length new ≡ length old
  pub views : (i : ℕ) → SameView (shard_at old i) (shard_at new i)
  pub bytes : (i : ℕ) → KeepsBytes (shard_at old i).pool (shard_at new i).pool

-- Calls of one shard

-- all shards but this one are unchanged
abbrev pub KeepsOtherShards : List NodeState → ℕ → List NodeState → Type 0
KeepsOtherShards old i new = new ≡ slice_set old i (shard_at new i)
