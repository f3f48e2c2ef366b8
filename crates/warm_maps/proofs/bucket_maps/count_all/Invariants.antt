use Rattle.std.proofs.Common.{◌≡◌, ◌+◌, drop}
use Rattle.warm_maps.specs.NearPairs.{count_of}
use Rattle.warm_maps.proofs.bucket_maps.count_all.Given as goal

abbrev pub invariant-loop-map : goal.invariant-loop-map
invariant-loop-map l = l.count + count_of (drop l.map-index l.maps) ≡ count_of l.maps
