use Rattle.std.proofs.Common.{◌≡◌, ◌≤◌, ◌<◌, ◌++◌, ℕ, length}
use Rattle.std.specs.Int.{bit_at}
use Rattle.std.specs.List.{range_with_len}
use Rattle.warm_stamps.specs.declared.TheConstants.{BUCKETS}
use Rattle.warm_history.specs.Changes.{SaysChange}
use Rattle.warm_history.specs.Histories.{entries_of}
use Rattle.warm_history.specs.Losses.{raised}
use Rattle.warm_history.proofs.cut.losing.Given as goal

-- the buckets so far are in the set exactly if they would change, and no later one is
abbrev pub invariant-loop-bucket : goal.invariant-loop-bucket
invariant-loop-bucket l = record {
  split : l.yielded ++ l.bucket-iterator ≡ range_with_len 0 BUCKETS;
  seen : (bucket : ℕ) → bucket < length l.yielded → SaysChange (entries_of l.history) (entries_of (raised l.horizon l.history)) bucket (bit_at l.buckets bucket);
  rest : (bucket : ℕ) → length l.yielded ≤ bucket → bit_at l.buckets bucket ≡ 0;
}
