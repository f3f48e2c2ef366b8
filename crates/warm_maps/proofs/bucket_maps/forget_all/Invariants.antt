use Rattle.std.proofs.Common.{◌≡◌, map, take, drop, ◌++◌}
use Rattle.warm_maps.specs.NearPairs.{far_pairs, near_pairs}
use Rattle.warm_maps.specs.Cuts.{cut_at}
use Rattle.warm_maps.proofs.bucket_maps.forget_all.Given as goal

-- the maps so far are without the older stamps, and the others are unchanged
abbrev pub invariant-loop-map : goal.invariant-loop-map
invariant-loop-map l = record {
  near : near_pairs l.maps ≡ map (cut_at l.horizon) (take l.map-index (near_pairs l.fn.maps)) ++ drop l.map-index (near_pairs l.fn.maps);
  far : far_pairs l.maps ≡ map (cut_at l.horizon) (take l.map-index (far_pairs l.fn.maps)) ++ drop l.map-index (far_pairs l.fn.maps);
}
