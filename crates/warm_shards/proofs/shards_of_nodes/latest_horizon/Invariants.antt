use Rattle.std.proofs.Common.{◌≡◌, length, take}
use Rattle.warm_shards.specs.Shards.{whole}
use Rattle.warm_shards.proofs.shards_of_nodes.latest_horizon.Given as goal

-- the latest horizon of the nodes so far
abbrev pub invariant-loop-shard : goal.invariant-loop-shard
invariant-loop-shard g l = record {
  so_far : l.latest ≡ (whole (take l.shard l.nodes.items)).horizon;
  count : l.count ≡ length l.nodes.items;
}
