use Rattle.std.proofs.Common.{◌<◌, ℕ}
use Rattle.warm_pool.specs.View.{view_of}
use Rattle.warm_shards.specs.ShardsOfNodes.{IsOwnIfResident}
use Rattle.warm_shards.proofs.shards_of_nodes.are_own_of.Given as goal

-- the pages so far are of the shard, or in no frame
abbrev pub invariant-loop-no : goal.invariant-loop-no
invariant-loop-no g l = (n : ℕ) → n < l.no
    → IsOwnIfResident l.count l.shard (view_of l.pool) (record { dev = l.dev; no = n })
