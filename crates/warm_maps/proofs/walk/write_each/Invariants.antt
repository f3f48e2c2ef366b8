use Rattle.std.proofs.Common.{◌≡◌, drop, length}
use Rattle.warm_maps.specs.BucketMaps.{KeysAscend}
use Rattle.warm_maps.specs.Runs.{with_pairs}
use Rattle.warm_maps.specs.Walks.{AreThere}
use Rattle.warm_maps.proofs.walk.write_each.Given as goal

-- those that are left complete the map
abbrev pub invariant-loop-pair : goal.invariant-loop-pair
invariant-loop-pair l = record {
  map_rise : KeysAscend l.map.entries;
  rise : KeysAscend (drop l.pair-index l.pairs);
  there : AreThere (drop l.pair-index l.pairs) l.map.entries;
  goes_on : with_pairs l.map.entries (drop l.pair-index l.pairs) ≡ with_pairs l.fn.map.entries l.pairs;
  as_many : length l.map.entries ≡ length l.fn.map.entries;
}
