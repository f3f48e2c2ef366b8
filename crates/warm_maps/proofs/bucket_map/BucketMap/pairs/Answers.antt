use Rattle.std.proofs.Common.{◌++◌, ap, ◌∙◌}
use Rattle.warm_maps.specs.NearPairs.{widened}
use Rattle.warm_maps.proofs.BucketParts.{whole_map}
use Rattle.warm_maps.proofs.bucket_map.BucketMap.pairs.Goals as goal

pub returns : goal.returns
returns c =
    let b = c.args.number in
    let m = c.args.self.now in
    ap (λ t. widened b t ++ c.range-2.result) (c.range.ensures.between tt ∙ whole_map m.near.entries)
    ∙ ap (λ t. widened b m.near.entries ++ t) (c.range-2.ensures.between tt ∙ whole_map m.far.entries)
