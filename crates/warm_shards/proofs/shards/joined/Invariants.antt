use Rattle.std.proofs.Common.{◌≡◌, length, take}
use Rattle.warm_shards.specs.Shards.{whole}
use Rattle.warm_shards.proofs.shards.joined.Given as goal

-- the history of the first shards
abbrev pub invariant-loop-shard : goal.invariant-loop-shard
invariant-loop-shard g l = record {
  so_far : l.all ≡ whole (take l.shard l.nodes.items);
  count : l.count ≡ length l.nodes.items;
}
