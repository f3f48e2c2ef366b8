use Rattle.std.proofs.Common.{◌<◌, ℕ}
use Rattle.warm_pool.specs.State.{nth_device}
use Rattle.warm_pool.specs.View.{view_of}
use Rattle.warm_shards.specs.ShardsOfNodes.{AreOwnOf}
use Rattle.warm_shards.proofs.shards_of_nodes.keeps_only.Given as goal

-- the pages of the devices so far are of the shard, or in no frame
abbrev pub invariant-loop-dev : goal.invariant-loop-dev
invariant-loop-dev g l = (k : ℕ) → k < l.dev
    → AreOwnOf l.count l.shard (view_of l.pool) k (nth_device l.pool.devices k).pages
