use Rattle.std.proofs.Common.{◌<◌, ◌≤◌, ◌++◌, sym, subst, arith}
use Rattle.std.proofs.lemmas.Result.{IfOk-weaker}
use Rattle.warm_stamps.specs.Buckets.{page_bucket}
use Rattle.warm_maps.specs.BucketMaps.{RecordsStamps}
use Rattle.warm_maps.specs.MapKeys.{near_key, key_of_page}
use Rattle.warm_maps.specs.NearPairs.{full, widened, IsFar}
use Rattle.warm_maps.specs.Undo.{noted}
use Rattle.warm_maps.proofs.NearKeys.{full_near, near_fits, near_before_far, key_far}
use Rattle.warm_maps.proofs.NearParts.{records_near, records_far, all_recorded}
use Rattle.warm_maps.proofs.bucket_map.BucketMap.record.Goals as goal

pub returns-then-page-lt-NEAR_DEVICES-clause-ok : goal.returns-then-page-lt-NEAR_DEVICES-clause-ok
returns-then-page-lt-NEAR_DEVICES-clause-ok c =
    let page = c.args.page in
    let b = page_bucket page in
    let m = c.args.self.now in
    let new = c.record_in.new.map.entries in
    let low : page.dev < 64 = c.if-page-lt-NEAR_DEVICES.true in
    let fits : page.no < 18446744073709551616 = omega arith in
    let more = c.args.more.now in
    let after = c.record_in.new.more in
    IfOk-weaker c.record_in.result _ _
    (λ change records. subst (λ p. RecordsStamps (full b m) page p more (noted page change after) (widened b new ++ m.far.entries)) (full_near page low fits)
    (records_near b (near_key page) m.near.entries m.far.entries (near_before_far b (near_key page) (near_fits page low fits)) c.requires.far page more (noted page change after) new
    (subst (λ p. RecordsStamps m.near.entries page p more (noted page change after) new) c.near_key.ensures.value (records page))))
    c.record_in.ensures.ok

pub returns-then-page-lt-NEAR_DEVICES-clause-map : goal.returns-then-page-lt-NEAR_DEVICES-clause-map
returns-then-page-lt-NEAR_DEVICES-clause-map c =
    let m = c.args.self.now in
    let page = c.args.page in
    record {
      near = all_recorded c.record_in.result (λ change. noted page change c.record_in.new.more) (λ k. k < 18446744073709551616) page c.near_key.result c.args.more.now m.near.entries c.record_in.new.map.entries c.near_key.ensures.below c.requires.near (IfOk-weaker c.record_in.result _ _ (λ change records. records page) c.record_in.ensures.ok) c.record_in.ensures.err;
      far = c.requires.far;
      near_few = c.record_in.ensures.small c.requires.near_few;
      far_few = c.requires.far_few;
    }

pub returns-clause-ok : goal.returns-clause-ok
returns-clause-ok c =
    let page = c.args.page in
    let b = page_bucket page in
    let m = c.args.self.now in
    let new = c.record_in-2.new.map.entries in
    let high : 64 ≤ page.dev = c.if-page-lt-NEAR_DEVICES.false in
    let dev : page.dev < 65536 = omega arith in
    let fits : page.no < 18446744073709551616 = omega arith in
    let more = c.args.more.now in
    let after = c.record_in-2.new.more in
    IfOk-weaker c.record_in-2.result _ _
    (λ change records. records_far b (key_of_page page) m.near.entries m.far.entries (key_far page high dev fits) c.requires.near page more (noted page change after) new
    (subst (λ p. RecordsStamps m.far.entries page p more (noted page change after) new) c.key_of_page.ensures.value (records page)))
    c.record_in-2.ensures.ok

pub returns-clause-map : goal.returns-clause-map
returns-clause-map c =
    let page = c.args.page in
    let m = c.args.self.now in
    let high : 64 ≤ page.dev = c.if-page-lt-NEAR_DEVICES.false in
    let dev : page.dev < 65536 = omega arith in
    let fits : page.no < 18446744073709551616 = omega arith in
    let is = subst (IsFar (page_bucket page)) (sym c.key_of_page.ensures.value) (key_far page high dev fits) in
    record {
      near = c.requires.near;
      far = all_recorded c.record_in-2.result (λ change. noted page change c.record_in-2.new.more) (IsFar (page_bucket page)) page c.key_of_page.result c.args.more.now m.far.entries c.record_in-2.new.map.entries is c.requires.far (IfOk-weaker c.record_in-2.result _ _ (λ change records. records page) c.record_in-2.ensures.ok) c.record_in-2.ensures.err;
      near_few = c.requires.near_few;
      far_few = c.record_in-2.ensures.small c.requires.far_few;
    }
