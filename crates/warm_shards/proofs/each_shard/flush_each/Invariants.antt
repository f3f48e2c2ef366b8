use Rattle.std.proofs.Common.{◌≡◌, length}
use Rattle.warm_shards.specs.EachShard.{ShardSettles, OfFirst}
use Rattle.warm_shards.proofs.each_shard.flush_each.Given as goal

-- the first nodes have gone so
abbrev pub invariant-loop-shard : goal.invariant-loop-shard
invariant-loop-shard g l = record {
  gone : OfFirst ShardSettles l.shard l.fn.nodes.items l.nodes.items;
  count : l.count ≡ length l.fn.nodes.items;
}
