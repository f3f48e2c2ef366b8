use Rattle.std.proofs.Common.{◌≡◌, ◌<◌, ℕ, length}
use Rattle.warm_shards.specs.Shards.{HoldsShard, shard_at}
use Rattle.warm_shards.proofs.shards_of_nodes.can_be_shards.Given as goal

-- the nodes so far have the id, and hold the pages of their shards
abbrev pub invariant-loop-shard : goal.invariant-loop-shard
invariant-loop-shard g l = record {
  id : (i : ℕ) → i < l.shard → (shard_at l.nodes.items i).id ≡ l.id;
  own : (i : ℕ) → i < l.shard → HoldsShard (length l.nodes.items) i (shard_at l.nodes.items i);
  count : l.count ≡ length l.nodes.items;
}
