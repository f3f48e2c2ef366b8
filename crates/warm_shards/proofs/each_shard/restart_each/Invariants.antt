use Rattle.std.proofs.Common.{◌≡◌, length}
use Rattle.warm_shards.specs.EachShard.{ShardRestarts, OfFirst}
use Rattle.warm_shards.proofs.each_shard.restart_each.Given as goal

-- the first nodes have gone so
abbrev pub invariant-loop-shard : goal.invariant-loop-shard
invariant-loop-shard g l = record {
  gone : OfFirst ShardRestarts l.shard l.fn.nodes.items l.nodes.items;
  count : l.count ≡ length l.fn.nodes.items;
}
