use Rattle.std.proofs.Common.{◌++◌}
use Rattle.std.specs.List.{AllByRecursion}
use Rattle.warm_maps.specs.BucketMaps.{KeysAscend}
use Rattle.warm_maps.specs.Cuts.{cut_at}
use Rattle.warm_maps.specs.MapPairs.{MapPairs}
use Rattle.warm_maps.specs.Walks.{AreParts, HoldsFrom, pairs_ahead}
use Rattle.warm_maps.proofs.near_join.compare_map.Given as goal

-- the walk can go on to each key that is left, and what they change completes the lists
abbrev pub invariant-loop-key : goal.invariant-loop-key
invariant-loop-key l = record {
  can : (goal.iterator-loop-key).can_next l.key-iterator;
  finite : (goal.iterator-loop-key).is_finite l.key-iterator;
  rise : KeysAscend l.key-iterator;
  holds : AllByRecursion (λ e. HoldsFrom e.0 (pairs_ahead l.ahead) l.map.entries) l.key-iterator;
  goes_on : (c f : MapPairs) → AreParts l.map.entries (cut_at l.horizon l.key-iterator) c f → AreParts l.map.entries (cut_at l.horizon l.more.entries) (l.changed.items ++ c) (l.fresh.items ++ f);
}
