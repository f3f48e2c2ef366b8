use Rattle.std.proofs.Common.{length}
use Rattle.warm_maps.proofs.near_join.+join_maps.Given as goal

abbrev pub decreases-join_maps : goal.decreases-join_maps
decreases-join_maps l = length l.maps.now
