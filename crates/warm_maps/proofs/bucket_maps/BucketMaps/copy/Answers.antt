use Rattle.std.proofs.Common.{ap, ◌∙◌}
use Rattle.warm_maps.specs.BucketMaps.{all_pairs}
use Rattle.warm_maps.proofs.BucketCounts.{same_fulls, same_maps}
use Rattle.warm_maps.proofs.bucket_maps.BucketMaps.copy.Goals as goal

pub invariant_of-result : goal.invariant_of-result
invariant_of-result c = (c.in_ok-maps.ensures.cases.long, same_maps 0 c.self.inside.maps c.in_ok-maps.maps c.in_ok-maps.ensures.cases.whole c.self.invariant.1)

pub returns : goal.returns
returns c = ap all_pairs (same_fulls 0 c.self.inside.maps c.in_ok-maps.maps c.in_ok-maps.ensures.cases.whole) ∙ c.self.view_is
