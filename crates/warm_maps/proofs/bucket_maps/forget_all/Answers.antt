use Rattle.std.proofs.Common.{ap, sym, ◌∙◌}
use Rattle.warm_maps.specs.declared.bucket_map.BucketMap.{BucketMap}
use Rattle.warm_maps.specs.Cuts.{cut_at}
use Rattle.warm_maps.proofs.CutLemmas.{cut_more}
use Rattle.warm_maps.proofs.bucket_maps.forget_all.Goals as goal

pub loop-map-preserved : goal.loop-map-preserved
loop-map-preserved c =
    let m = c.args.horizon in
    record {
      near = cut_more (λ (x : BucketMap). x.near.entries) m c.args.maps.now c.loop-map.maps c.loop-map.map-index c.map-item.result c.forget.new.self c.loop-map-test.true c.loop-map.invariant.near c.map-item.is
          (c.forget.ensures.near ∙ ap (λ (x : BucketMap). cut_at m x.near.entries) (sym c.map-item.is));
      far = cut_more (λ (x : BucketMap). x.far.entries) m c.args.maps.now c.loop-map.maps c.loop-map.map-index c.map-item.result c.forget.new.self c.loop-map-test.true c.loop-map.invariant.far c.map-item.is
          (c.forget.ensures.far ∙ ap (λ (x : BucketMap). cut_at m x.far.entries) (sym c.map-item.is));
    }
