use Rattle.std.proofs.Common.{drop}
use Rattle.warm_maps.specs.BucketMaps.{KeysAscend}
use Rattle.warm_maps.specs.MapPairs.{MapPairs}
use Rattle.warm_maps.specs.Walks.{AreAbsent, SameElsewhere}
use Rattle.warm_maps.proofs.walk.take_out.Given as goal

-- but for those that are left, the pairs are as before
abbrev pub invariant-loop-pair : goal.invariant-loop-pair
invariant-loop-pair l = record {
  rise : KeysAscend l.map.entries;
  absent : (old : MapPairs) → AreAbsent l.pairs old → AreAbsent (drop l.pair-index l.pairs) old;
  back : (old : MapPairs) → AreAbsent l.pairs old → SameElsewhere l.pairs old l.fn.map.entries → SameElsewhere (drop l.pair-index l.pairs) old l.map.entries;
}
