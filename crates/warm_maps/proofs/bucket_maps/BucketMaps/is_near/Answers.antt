use Rattle.std.proofs.Common.{subst}
use Rattle.warm_maps.specs.NearJoins.{IsNear}
use Rattle.warm_maps.proofs.JoinedMaps.{near_all}
use Rattle.warm_maps.proofs.NearParts.{AllKeys}
use Rattle.warm_maps.proofs.bucket_maps.BucketMaps.is_near.Goals as goal

pub returns : goal.returns
returns c = λ near. subst (AllKeys IsNear) c.self.view_is (near_all 0 c.self.inside.maps c.self.invariant.1 (c.are_near.ensures near))
