use Rattle.std.proofs.Common.{◌++◌, drop}
use Rattle.std.specs.List.{AllByRecursion}
use Rattle.warm_maps.specs.BucketMaps.{KeysAscend}
use Rattle.warm_maps.specs.MapPairs.{MapPairs}
use Rattle.warm_maps.specs.Walks.{AreParts, HoldsFrom, pairs_ahead}
use Rattle.warm_maps.proofs.walk.compare.Given as goal

-- the walk can go on to each key that is left, and what they change completes the lists
abbrev pub invariant-loop-pair : goal.invariant-loop-pair
invariant-loop-pair l = record {
  rise : KeysAscend (drop l.pair-index l.run);
  holds : AllByRecursion (λ e. HoldsFrom e.0 (pairs_ahead l.ahead) l.map.entries) (drop l.pair-index l.run);
  goes_on : (c f : MapPairs) → AreParts l.map.entries (drop l.pair-index l.run) c f → AreParts l.map.entries l.run (l.changed.items ++ c) (l.fresh.items ++ f);
}
