use Rattle.std.proofs.Common.{◌≡◌, ◌≤◌, ◌*◌, ap, length, arith, sym, ◌∙◌}
use Rattle.warm_maps.specs.NearPairs.{count_of}
use Rattle.warm_maps.proofs.BucketCounts.{few_counted, all_counted}
use Rattle.warm_maps.proofs.bucket_maps.BucketMaps.len.Goals as goal

pub count_all-requires : goal.count_all-requires
count_all-requires c =
    let maps = c.self.inside.maps in
    let few : count_of maps ≤ length maps * 288230376151711742 = few_counted 0 maps c.self.invariant.1 in
    let most : length maps * 288230376151711742 ≡ 64 * 288230376151711742 = ap (λ n. n * 288230376151711742) c.self.invariant.0 in
    omega arith

pub returns : goal.returns
returns c = c.count_all.ensures ∙ sym (all_counted 0 c.self.inside.maps) ∙ ap length c.self.view_is
