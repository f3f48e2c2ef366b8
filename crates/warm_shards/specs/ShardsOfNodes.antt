-- Shards that are formed of nodes that have run.
use Rattle.std.specs.Prelude.{◌≡◌, ℕ, ◌<◌, List, length}
use Rattle.warm_stamps.specs.declared.PageId.{PageId}
use Rattle.warm_pool.specs.View.{PoolView, IsResident}
use Rattle.warm_gossip.specs.State.{NodeState}
use Rattle.warm_shards.specs.declared.fault.ShardsFault.{ShardsFault}
use Rattle.warm_shards.specs.declared.fault.ShardsFault.TheVariants.{BadCount, NotShards}
use Rattle.warm_shards.specs.Shards.{HoldsShard, shard_at}
use Rattle.warm_visits.specs.ShardNumbers.{IsShardCount, shard_of}

-- As many nodes as there can be shards, each of this id and with the pages of its shard alone.
-- Their horizons may differ.
pub record CanBeShards (number : ℕ) (nodes : List NodeState) : Type 0 where
  pub count : IsShardCount (length nodes)
  pub id : (i : ℕ) → i < length nodes → (shard_at nodes i).id ≡ number
  pub own : (i : ℕ) → i < length nodes → HoldsShard (length nodes) i (shard_at nodes i)

-- why nodes are no shards of the replica of this number
abbrev pub IsFormingRefused : ℕ → List NodeState → ShardsFault → Type 0
IsFormingRefused number nodes BadCount = IsShardCount (length nodes) → ⊥
IsFormingRefused number nodes NotShards = IsShardCount (length nodes)
    × (CanBeShards number nodes → ⊥)
IsFormingRefused number nodes fault = ⊥

-- The steps

-- the page is of this shard, if it is in a frame
abbrev pub IsOwnIfResident : ℕ → ℕ → PoolView → PageId → Type 0
IsOwnIfResident count i v p = IsResident v p → shard_of count p ≡ i

-- the first pages of a device are of this shard, if they are in frames
abbrev pub AreOwnOf : ℕ → ℕ → PoolView → ℕ → ℕ → Type 0
AreOwnOf count i v dev pages = (no : ℕ) → no < pages
    → IsOwnIfResident count i v (record { dev = dev; no = no })
