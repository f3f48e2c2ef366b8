use Rattle.std.proofs.Common.{rules}
use Rattle.warm_maps.proofs.BucketCounts.{each_made, empty_joined, empty_maps}
use Rattle.warm_maps.proofs.bucket_maps.BucketMaps.new.Goals as goal

pub invariant_of-result : goal.invariant_of-result
invariant_of-result c =
    let none = each_made _ _ _ _ (λ p i m q called. search rules) c.from_fn.ensures.items in
    (c.from_fn.ensures.items.long, empty_maps 0 c.from_fn.result none)

pub returns : goal.returns
returns c = empty_joined 0 c.from_fn.result (each_made _ _ _ _ (λ p i m q called. search rules) c.from_fn.ensures.items)
