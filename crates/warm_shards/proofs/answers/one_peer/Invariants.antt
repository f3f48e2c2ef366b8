use Rattle.std.proofs.Common.{◌≡◌, length, take}
use Rattle.warm_shards.specs.Shards.{shard_at, whole}
use Rattle.warm_shards.proofs.answers.one_peer.Given as goal

-- the peer has the history of the first shards
abbrev pub invariant-loop-shard : goal.invariant-loop-shard
invariant-loop-shard g l = record {
  id : l.one.id ≡ (shard_at l.nodes.items 0).id;
  so_far : l.one.history ≡ whole (take l.shard l.nodes.items);
  count : l.count ≡ length l.nodes.items;
}
