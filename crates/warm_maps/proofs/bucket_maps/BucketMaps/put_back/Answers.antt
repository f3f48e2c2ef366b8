use Rattle.std.proofs.Common.{◌≡◌, ◌<◌, sym, subst, ◌∙◌, arith, length, get_or}
use Rattle.warm_stamps.specs.Buckets.{page_bucket}
use Rattle.warm_maps.specs.BucketMaps.{LiesIn}
use Rattle.warm_maps.specs.MapKeys.{key_of_page}
use Rattle.warm_maps.specs.NearPairs.{full, IsMapOf}
use Rattle.warm_maps.specs.Undo.{put_back}
use Rattle.warm_maps.proofs.FullMaps.{length_set, map_of, maps_with, put_back_with}
use Rattle.warm_maps.proofs.NearKeys.{own_bucket_of}
use Rattle.warm_maps.proofs.bucket_maps.BucketMaps.put_back.Goals as goal

pub put_back-requires : goal.put_back-requires
put_back-requires c =
    let maps = c.self.inside.maps in
    let i = c.get.result in
    let d = c.index-self-get.result in
    let own : i ≡ page_bucket c.args.note.page = c.get.ensures.value ∙ c.bucket_of.ensures in
    let long : length maps ≡ 64 = c.self.invariant.0 in
    let there : i < length maps = omega (arith, long, c.get.ensures.below) in
    subst (λ b. IsMapOf b (get_or maps i d)) own (map_of i d maps c.self.invariant.1 there)

pub invariant_of-self : goal.invariant_of-self
invariant_of-self c =
    let maps = c.self.inside.maps in
    let i = c.get.result in
    let new = c.put_back.new.self in
    let own : i ≡ page_bucket c.args.note.page = c.get.ensures.value ∙ c.bucket_of.ensures in (
      length_set maps i new ∙ c.self.invariant.0,
      maps_with i new maps c.self.invariant.1 (subst (λ b. IsMapOf b new) (sym own) c.put_back.ensures.map),
    )

pub returns : goal.returns
returns c =
    let page = c.args.note.page in
    let hist = c.args.note.hist in
    let p = key_of_page page in
    let maps = c.self.inside.maps in
    let i = c.get.result in
    let d = c.index-self-get.result in
    let new = c.put_back.new.self in
    let own : i ≡ page_bucket page = c.get.ensures.value ∙ c.bucket_of.ensures in
    let long : length maps ≡ 64 = c.self.invariant.0 in
    let there : i < length maps = omega (arith, long, c.get.ensures.below) in
    let lies : LiesIn i p = subst (λ b. LiesIn b p) (sym own) (own_bucket_of page (omega arith) (omega arith)) in
    let back = subst (λ b. full b new ≡ put_back p hist (full b (get_or maps i d))) (sym own) c.put_back.ensures.back in
    put_back_with i p hist d new maps c.args.self.now c.self.invariant.1 there lies c.self.view_is back
