use Rattle.std.proofs.Common.{◌≡◌, ◌≤◌, ℕ, ◌<◌, length, vec_capacity}
use Rattle.warm_shards.specs.EachShard.{First}
use Rattle.warm_concurrent.specs.Attached.{AreOf, IsPassOf, known_of, no_pass, shard_pass, shard_turn}
use Rattle.warm_concurrent.specs.Opening.{IsSplit, with_half}
use Rattle.warm_concurrent.proofs.attaching.split_all.Given as goal

-- the first passes are split, and those that they were split off have half of their shares
abbrev pub invariant-loop-shard : goal.invariant-loop-shard
invariant-loop-shard g l = record {
  count : l.count ≡ length l.fn.turns.items;
  of : AreOf l.fn.turns.items l.passes.items;
  halved : First no_pass (λ i old new. new ≡ with_half old) l.shard l.fn.passes.items l.passes.items;
  number : length l.all.items ≡ l.shard;
  capacity : l.count ≤ vec_capacity l.all;
  each : (i : ℕ) → i < l.shard
      → IsPassOf (shard_turn l.fn.turns.items i) (shard_pass l.all.items i)
      × IsSplit (known_of l.fn.passes.items i) (known_of l.all.items i);
}
