use Rattle.std.proofs.Common.{◌≡◌, ◌<◌, ℕ, length}
use Rattle.warm_pool.specs.View.{IsUnfixed, view_of}
use Rattle.warm_shards.specs.Shards.{shard_at}
use Rattle.warm_shards.proofs.each_shard.may_restart_each.Given as goal

-- no page of the first nodes is pinned
abbrev pub invariant-loop-shard : goal.invariant-loop-shard
invariant-loop-shard g l = record {
  unfixed : (i : ℕ) → i < l.shard → IsUnfixed (view_of (shard_at l.nodes.items i).pool);
  count : l.count ≡ length l.nodes.items;
}
