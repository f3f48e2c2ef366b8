use Rattle.std.proofs.Common.{◌≡◌, drop, IsSome}
use Rattle.std.specs.List.{AllByRecursion}
use Rattle.warm_maps.specs.BucketMaps.{KeysAscend, found}
use Rattle.warm_maps.specs.Runs.{with_pairs}
use Rattle.warm_maps.specs.Walks.{SameElsewhere}
use Rattle.warm_maps.proofs.walk.insert_each.Given as goal

-- those that are left complete the map
abbrev pub invariant-loop-pair : goal.invariant-loop-pair
invariant-loop-pair l = record {
  map_rise : KeysAscend l.map.entries;
  rise : KeysAscend (drop l.pair-index l.pairs);
  named : AllByRecursion (λ e. IsSome (found e.0 l.pairs)) (drop l.pair-index l.pairs);
  goes_on : with_pairs l.map.entries (drop l.pair-index l.pairs) ≡ with_pairs l.fn.map.entries l.pairs;
  others : SameElsewhere l.pairs l.fn.map.entries l.map.entries;
}
