use Rattle.std.proofs.Common.{◌≡◌, ℕ, ◌<◌, ◌≤◌, length, get_or}
use Rattle.warm_visits.proofs.batch_parts.first_past.Given as goal

-- no part so far has an item
abbrev pub invariant-loop-shard : goal.invariant-loop-shard
invariant-loop-shard l = record {
  count : l.count ≡ length l.ends.items;
  from : l.from ≤ l.shard;
  within : l.shard ≤ l.count;
  passed : (i : ℕ) → l.from ≤ i → i < l.shard → get_or l.ends.items i 0 ≡ l.start;
}
