use Rattle.std.proofs.Common.{◌≡◌, ℕ, ◌<◌, ◌≤◌, length, get_or, take}
use Rattle.std.specs.Prelude.{sum}
use Rattle.warm_visits.proofs.batch_parts.add_up.Given as goal

-- the sums so far, and behind them the sizes
abbrev pub invariant-loop-shard : goal.invariant-loop-shard
invariant-loop-shard l = record {
  size : length l.sizes.items ≡ length l.fn.sizes.items;
  start : l.start ≡ sum (take l.shard l.fn.sizes.items);
  sums : (i : ℕ) → i < l.shard → get_or l.sizes.items i 0 ≡ sum (take i l.fn.sizes.items);
  sizes : (i : ℕ) → l.shard ≤ i → get_or l.sizes.items i 0 ≡ get_or l.fn.sizes.items i 0;
}
