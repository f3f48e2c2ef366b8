use Rattle.std.proofs.Common.{◌≡◌, ◌<◌, ℕ, length}
use Rattle.warm_pool.specs.Forgetting.{MayForget}
use Rattle.warm_shards.specs.Shards.{shard_at}
use Rattle.warm_shards.proofs.each_shard.may_forget_each.Given as goal

-- the first nodes may forget the pages
abbrev pub invariant-loop-shard : goal.invariant-loop-shard
invariant-loop-shard g l = record {
  may : (i : ℕ) → i < l.shard → MayForget (shard_at l.nodes.items i).pool l.dev l.from;
  count : l.count ≡ length l.nodes.items;
}
