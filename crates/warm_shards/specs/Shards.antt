-- Shards: the nodes of one replica, each with the pages of its buckets. Together they are one node.
use Rattle.std.specs.Prelude.{◌≡◌, ℕ, ◌<◌, List, [], ◌∷◌, length, Some}
use Rattle.std.specs.Prelude.{slice_index_or}
use Rattle.std.specs.List.{All, AllByRecursion}
use Rattle.warm_stamps.specs.declared.PageId.{PageId}
use Rattle.warm_history.specs.ReferenceSets.{ReferenceSet, set_of_list, ◌∪◌}
use Rattle.warm_history.specs.Histories.{HistoryView, IsHistory, entries_of, history, references_of}
use Rattle.warm_pool.specs.Residents.{resident_pages}
use Rattle.warm_pool.specs.State.{fresh_pool}
use Rattle.warm_pool.specs.View.{PoolView, frame_at, view_of}
use Rattle.warm_gossip.specs.State.{NodeState, NodeView, node_view, opened_node}
use Rattle.warm_visits.specs.ShardNumbers.{IsShardCount, shard_of}

-- a node without a frame: no slot of it holds a page
abbrev pub no_shard : NodeState
no_shard = opened_node 0 (fresh_pool 0 0 [])

-- the shard of this number, from 0
abbrev pub shard_at : List NodeState → ℕ → NodeState
shard_at shards i = slice_index_or shards i no_shard

-- All shards together

-- the references that the shards hold, at the latest of their horizons
abbrev pub held : List NodeState → ReferenceSet
held [] = set_of_list []
held (n ∷ ns) = references_of n.history ∪ held ns

-- the history of all shards: their entries together, in page order
abbrev pub whole : List NodeState → HistoryView
whole shards = history (held shards)

-- the one node with all references of the shards, and with some pool
abbrev pub as_node : List NodeState → PoolView → NodeView
as_node shards pool =
    record { id = (shard_at shards 0).id; history = whole shards; pool = pool }

-- The invariant

-- each page in a frame is of this shard
abbrev pub HasPagesOf : ℕ → ℕ → PoolView → Type 0
HasPagesOf count i v = (k : ℕ) (p : PageId) → (frame_at v k).page ≡ Some p → shard_of count p ≡ i

-- the node knows pages of this shard alone, and no other page is in its pool
pub record HoldsPagesOf (count i : ℕ) (n : NodeView) : Type 0 where
  pub known : AllByRecursion (λ e. shard_of count e.page ≡ i) (entries_of n.history)
  pub resident : HasPagesOf count i n.pool

-- the node in this state knows pages of this shard alone, and no other page is in its pool
abbrev pub HoldsShard : ℕ → ℕ → NodeState → Type 0
HoldsShard count i n = HoldsPagesOf count i (node_view n)

-- the node is the shard of this number, of a count of shards with this id and this horizon
pub record IsShard (count number latest i : ℕ) (n : NodeState) : Type 0 where
  pub id : n.id ≡ number
  pub horizon : n.history.horizon ≡ latest
  pub valid : IsHistory n.history
  pub own : HoldsShard count i n

-- The shards of one replica: all have one id and one horizon, and each holds the pages of its
-- buckets alone.
pub record AreShards (shards : List NodeState) : Type 0 where
  pub count : IsShardCount (length shards)
  pub each : (i : ℕ) → i < length shards → IsShard (length shards) (shard_at shards 0).id
      (shard_at shards 0).history.horizon i (shard_at shards i)

-- Opening

-- a node of this id without references and without a resident page
pub record IsOpened (number : ℕ) (n : NodeState) : Type 0 where
  pub id : n.id ≡ number
  pub entries : entries_of n.history ≡ []
  pub horizon : n.history.horizon ≡ 0
  pub vacant : resident_pages (view_of n.pool) ≡ []

-- as many nodes as there can be shards, each of this id, without references and without a resident
-- page
pub record AreOpened (number : ℕ) (nodes : List NodeState) : Type 0 where
  pub count : IsShardCount (length nodes)
  pub each : All (IsOpened number) nodes
