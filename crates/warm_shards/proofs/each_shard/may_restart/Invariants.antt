use Rattle.std.proofs.Common.{◌≡◌, ◌<◌, ℕ, length}
use Rattle.warm_pool.specs.Forgetting.{AreUnfixedFrom}
use Rattle.warm_pool.specs.View.{view_of}
use Rattle.warm_shards.proofs.each_shard.may_restart.Given as goal

-- no page of the first devices is pinned
abbrev pub invariant-loop-dev : goal.invariant-loop-dev
invariant-loop-dev g l = record {
  unfixed : (k : ℕ) → k < l.dev → AreUnfixedFrom (view_of l.node.pool) k 0;
  count : l.devices ≡ length l.node.pool.devices;
}
