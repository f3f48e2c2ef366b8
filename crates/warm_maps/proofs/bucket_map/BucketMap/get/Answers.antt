use Rattle.std.proofs.Common.{◌<◌, ◌≤◌, ap, sym, ◌∙◌, arith}
use Rattle.warm_stamps.specs.Buckets.{page_bucket}
use Rattle.warm_maps.specs.BucketMaps.{found}
use Rattle.warm_maps.specs.MapKeys.{near_key, key_of_page}
use Rattle.warm_maps.specs.NearPairs.{full}
use Rattle.warm_maps.proofs.NearKeys.{full_near, near_fits, near_before_far, key_far}
use Rattle.warm_maps.proofs.NearParts.{find_near, find_far}
use Rattle.warm_maps.proofs.bucket_map.BucketMap.get.Goals as goal

pub returns-then-page-lt-NEAR_DEVICES : goal.returns-then-page-lt-NEAR_DEVICES
returns-then-page-lt-NEAR_DEVICES c =
    let page = c.args.page in
    let b = page_bucket page in
    let m = c.args.self.now in
    let low : page.dev < 64 = c.if-page-lt-NEAR_DEVICES.true in
    let fits : page.no < 18446744073709551616 = omega arith in
    c.copied.ensures
    ∙ c.get.ensures.value
    ∙ ap (λ p. found p m.near.entries) c.near_key.ensures.value
    ∙ sym (find_near b (near_key page) m.near.entries m.far.entries (near_before_far b (near_key page) (near_fits page low fits)) c.requires.far)
    ∙ ap (λ p. found p (full b m)) (full_near page low fits)

pub returns : goal.returns
returns c =
    let page = c.args.page in
    let b = page_bucket page in
    let m = c.args.self.now in
    let high : 64 ≤ page.dev = c.if-page-lt-NEAR_DEVICES.false in
    let dev : page.dev < 65536 = omega arith in
    let fits : page.no < 18446744073709551616 = omega arith in
    c.copied-2.ensures
    ∙ c.get-2.ensures.value
    ∙ ap (λ p. found p m.far.entries) c.key_of_page.ensures.value
    ∙ sym (find_far b (key_of_page page) m.near.entries m.far.entries (key_far page high dev fits) c.requires.near)
