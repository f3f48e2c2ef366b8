use Rattle.std.proofs.Common.{◌≡◌, ◌≤◌, ◌+◌, ◌++◌, length, vec_capacity}
use Rattle.warm_concurrent.specs.Opening.{AreFirst, openings}
use Rattle.warm_concurrent.proofs.sharing.put_all.Given as goal

-- the last shards are behind turns, and there is room for the others
abbrev pub invariant-loop-shard : goal.invariant-loop-shard
invariant-loop-shard g l = record {
  left : l._shard + length l.shards.items ≡ l.count;
  turns : length l.turns.items + length l.shards.items ≤ vec_capacity l.turns;
  passes : length l.passes.items + length l.shards.items ≤ vec_capacity l.passes;
  first : AreFirst l.turns.items l.passes.items;
  same : l.shards.items ++ openings l.turns.items ≡ l.fn.shards.items ++ openings l.fn.turns.items;
}
