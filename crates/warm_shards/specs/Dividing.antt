-- Why there are no shards of such nodes, or of this many frames.
use Rattle.std.specs.Prelude.{◌≢◌, ℕ, ◌%◌, List, length}
use Rattle.warm_gossip.specs.State.{NodeState}
use Rattle.warm_shards.specs.declared.fault.ShardsFault.{ShardsFault}
use Rattle.warm_shards.specs.declared.fault.ShardsFault.TheVariants.{BadCount, NotOpened, Uneven}
use Rattle.warm_shards.specs.Shards.{AreOpened}
use Rattle.warm_visits.specs.ShardNumbers.{IsShardCount}

-- why fresh nodes are no shards of the replica of this number
abbrev pub IsOpeningRefused : ℕ → List NodeState → ShardsFault → Type 0
IsOpeningRefused number nodes BadCount = IsShardCount (length nodes) → ⊥
IsOpeningRefused number nodes NotOpened = IsShardCount (length nodes)
    × (AreOpened number nodes → ⊥)
IsOpeningRefused number nodes fault = ⊥

-- why frames are not divided among this many shards
abbrev pub IsDivisionRefused : ℕ → ℕ → ShardsFault → Type 0
IsDivisionRefused frames shards BadCount = IsShardCount shards → ⊥
IsDivisionRefused frames shards Uneven = IsShardCount shards × (frames % shards ≢ 0)
IsDivisionRefused frames shards fault = ⊥
