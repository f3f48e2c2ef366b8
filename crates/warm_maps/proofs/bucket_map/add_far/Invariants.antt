use Rattle.std.proofs.Common.{◌≡◌, ◌++◌, ◌≤◌, length}
use Rattle.warm_maps.specs.MapPairs.{as_entries}
use Rattle.warm_maps.proofs.bucket_map.add_far.Given as goal

-- these entries and the pairs ahead are all of them
abbrev pub invariant-loop-far : goal.invariant-loop-far
invariant-loop-far l = record {
  goes_on : l.entries.items ++ as_entries l.far ≡ l.initial.entries.items ++ as_entries l.initial.far;
  few : length l.entries.items ≤ l.limit;
}

abbrev pub decreases-loop-far : goal.decreases-loop-far
decreases-loop-far l = length l.far
