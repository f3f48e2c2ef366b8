use Rattle.std.proofs.Common.{◌≡◌, ◌+◌, ◌≤◌, length}
use Rattle.warm_maps.specs.BucketMaps.{pairs_left}
use Rattle.warm_maps.specs.MapPairs.{as_entries}
use Rattle.warm_maps.proofs.bucket_maps.next_of_later.Given as goal

abbrev pub invariant-loop-entry : goal.invariant-loop-entry
invariant-loop-entry l = record {
  same : as_entries (pairs_left l.here l.next l.rest.now) ≡ as_entries (pairs_left l.initial.here l.initial.next l.initial.rest.now);
  inside : l.next + length l.rest.now ≤ 64;
}

abbrev pub decreases-loop-entry : goal.decreases-loop-entry
decreases-loop-entry l = length l.rest.now
