use Rattle.std.proofs.Common.{ap, ◌∙◌}
use Rattle.warm_maps.specs.BucketMaps.{all_pairs}
use Rattle.warm_maps.specs.Cuts.{cut_at}
use Rattle.warm_maps.specs.NearPairs.{fulls}
use Rattle.warm_maps.proofs.CutLemmas.{joined_left, cut_maps}
use Rattle.warm_maps.proofs.bucket_maps.BucketMaps.forget.Goals as goal

pub invariant_of-self : goal.invariant_of-self
invariant_of-self c =
    let cut = cut_maps c.args.horizon 0 c.self.inside.maps c.forget_all.new.maps c.forget_all.ensures.near c.forget_all.ensures.far c.self.invariant.1 in
    (cut.2 ∙ c.self.invariant.0, cut.1)

pub returns : goal.returns
returns c =
    let m = c.args.horizon in
    let maps = c.self.inside.maps in
    let cut = cut_maps m 0 maps c.forget_all.new.maps c.forget_all.ensures.near c.forget_all.ensures.far c.self.invariant.1 in
    ap all_pairs cut.0 ∙ joined_left m (fulls 0 maps) ∙ ap (cut_at m) c.self.view_is
