use Rattle.std.proofs.Common.{drop}
use Rattle.warm_maps.specs.NearJoins.{NoFar}
use Rattle.warm_maps.proofs.bucket_maps.are_near.Given as goal

-- if those that are left have none, no map has
abbrev pub invariant-loop-map : goal.invariant-loop-map
invariant-loop-map l = NoFar (drop l.map-index l.maps) → NoFar l.maps
