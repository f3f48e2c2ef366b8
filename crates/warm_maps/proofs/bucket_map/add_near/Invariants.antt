use Rattle.std.proofs.Common.{◌≡◌, ◌++◌, ◌≤◌, length}
use Rattle.warm_maps.specs.MapPairs.{as_entries}
use Rattle.warm_maps.specs.NearPairs.{widened}
use Rattle.warm_maps.proofs.bucket_map.add_near.Given as goal

-- these entries and the pairs ahead are all of them
abbrev pub invariant-loop-near : goal.invariant-loop-near
invariant-loop-near l = record {
  goes_on : l.entries.items ++ as_entries (widened l.number l.near) ≡ l.initial.entries.items ++ as_entries (widened l.initial.number l.initial.near);
  few : length l.entries.items ≤ l.limit;
}

abbrev pub decreases-loop-near : goal.decreases-loop-near
decreases-loop-near l = length l.near
