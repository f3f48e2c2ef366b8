use Rattle.std.proofs.Common.{◌≡◌, ◌<◌, sym, ap, subst, ◌∙◌, arith, length, get_or}
use Rattle.warm_stamps.specs.Buckets.{page_bucket}
use Rattle.warm_maps.specs.BucketMaps.{LiesIn, found}
use Rattle.warm_maps.specs.MapKeys.{key_of_page}
use Rattle.warm_maps.specs.NearPairs.{full, IsMapOf}
use Rattle.warm_maps.proofs.FullMaps.{found_full, map_of}
use Rattle.warm_maps.proofs.NearKeys.{own_bucket_of}
use Rattle.warm_maps.proofs.bucket_maps.BucketMaps.get.Goals as goal

pub get-requires-2 : goal.get-requires-2
get-requires-2 c =
    let maps = c.self.inside.maps in
    let i = c.get.result in
    let d = c.index-self-get.result in
    let own : i ≡ page_bucket c.args.page = c.get.ensures.value ∙ c.bucket_of.ensures in
    let long : length maps ≡ 64 = c.self.invariant.0 in
    let there : i < length maps = omega (arith, long, c.get.ensures.below) in
    subst (λ b. IsMapOf b (get_or maps i d)) own (map_of i d maps c.self.invariant.1 there)

pub returns : goal.returns
returns c =
    let page = c.args.page in
    let p = key_of_page page in
    let maps = c.self.inside.maps in
    let i = c.get.result in
    let d = c.index-self-get.result in
    let own : i ≡ page_bucket page = c.get.ensures.value ∙ c.bucket_of.ensures in
    let long : length maps ≡ 64 = c.self.invariant.0 in
    let there : i < length maps = omega (arith, long, c.get.ensures.below) in
    let lies : LiesIn i p = subst (λ b. LiesIn b p) (sym own) (own_bucket_of page (omega arith) (omega arith)) in
    c.get-2.ensures
    ∙ ap (λ b. found p (full b (get_or maps i d))) (sym own)
    ∙ found_full i p d maps c.self.invariant.1 there lies
    ∙ ap (found p) c.self.view_is
