use Rattle.std.proofs.Common.{◌≡◌, ◌<◌, sym, subst, ◌∙◌, arith, length, get_or, OnErr}
use Rattle.std.proofs.lemmas.Result.{IfOk-weaker}
use Rattle.warm_stamps.specs.Buckets.{page_bucket}
use Rattle.warm_maps.specs.MapKeys.{key_of_page}
use Rattle.warm_maps.specs.MapPairs.{AreKept}
use Rattle.warm_maps.specs.NearPairs.{full, IsMapOf}
use Rattle.warm_maps.specs.Undo.{noted}
use Rattle.warm_maps.proofs.BucketSteps.{either_way, records_whole, records_undo, records_tell}
use Rattle.warm_maps.proofs.FullMaps.{all_with, length_set, map_of, maps_with, recorded_in_bucket, unchanged}
use Rattle.warm_maps.proofs.NearKeys.{page_key}
use Rattle.warm_maps.proofs.bucket_maps.BucketMaps.record.Goals as goal

pub record-requires : goal.record-requires
record-requires c =
    let maps = c.self.inside.maps in
    let i = c.get.result in
    let d = c.index-self-get.result in
    let own : i ≡ page_bucket c.args.page = c.get.ensures.value ∙ c.bucket_of.ensures in
    let long : length maps ≡ 64 = c.self.invariant.0 in
    let there : i < length maps = omega (arith, long, c.get.ensures.below) in
    subst (λ b. IsMapOf b (get_or maps i d)) own (map_of i d maps c.self.invariant.1 there)

pub invariant_of-self : goal.invariant_of-self
invariant_of-self c =
    let maps = c.self.inside.maps in
    let i = c.get.result in
    let new = c.record.new.self in
    let own : i ≡ page_bucket c.args.page = c.get.ensures.value ∙ c.bucket_of.ensures in (
      length_set maps i new ∙ c.self.invariant.0,
      maps_with i new maps c.self.invariant.1 (subst (λ b. IsMapOf b new) (sym own) c.record.ensures.map),
    )

pub returns-clause-records : goal.returns-clause-records
returns-clause-records c =
    let page = c.args.page in
    let maps = c.self.inside.maps in
    let own : c.get.result ≡ page_bucket page = c.get.ensures.value ∙ c.bucket_of.ensures in
    recorded_in_bucket c.record.result (λ change. noted page change c.record.new.more) c.get.result page c.args.more.now c.index-self-get.result c.record.new.self maps c.args.self.now (omega arith) (omega arith) c.self.invariant.1 c.self.invariant.0 c.get.ensures.below own c.self.view_is c.record.ensures.ok

pub returns-clause-whole : goal.returns-clause-whole
returns-clause-whole c =
    let page = c.args.page in
    let maps = c.self.inside.maps in
    let i = c.get.result in
    let new = c.record.new.self in
    let own : i ≡ page_bucket page = c.get.ensures.value ∙ c.bucket_of.ensures in
    let ok = recorded_in_bucket c.record.result (λ change. noted page change c.record.new.more) c.get.result page c.args.more.now c.index-self-get.result new maps c.args.self.now (omega arith) (omega arith) c.self.invariant.1 c.self.invariant.0 c.get.ensures.below own c.self.view_is c.record.ensures.ok in
    let d = c.index-self-get.result in
    let there : i < length maps = subst (λ k. i < k) (sym c.self.invariant.0) c.get.ensures.below in
    let same = subst (λ b. OnErr c.record.result (full b new ≡ full b (get_or maps i d))) (sym own) c.record.ensures.err in
    let err = unchanged c.record.result i d new maps c.args.self.now there c.self.view_is same in
    either_way c.record.result _ _ _
    (λ change records. records_whole c.args.self.now (all_with maps i new) page (key_of_page page) c.args.more.now (noted page change c.record.new.more) (page_key page (omega arith) (omega arith)) c.requires records)
    (λ is. subst AreKept (sym is) c.requires) ok err

pub returns-clause-undo : goal.returns-clause-undo
returns-clause-undo c =
    let page = c.args.page in
    let maps = c.self.inside.maps in
    let i = c.get.result in
    let new = c.record.new.self in
    let own : i ≡ page_bucket page = c.get.ensures.value ∙ c.bucket_of.ensures in
    let ok = recorded_in_bucket c.record.result (λ change. noted page change c.record.new.more) c.get.result page c.args.more.now c.index-self-get.result new maps c.args.self.now (omega arith) (omega arith) c.self.invariant.1 c.self.invariant.0 c.get.ensures.below own c.self.view_is c.record.ensures.ok in
    IfOk-weaker c.record.result _ _ (λ change records. records_undo c.args.self.now (all_with maps i new) page c.args.more.now (noted page change c.record.new.more) c.requires records) ok

pub returns-clause-tells : goal.returns-clause-tells
returns-clause-tells c =
    let page = c.args.page in
    let maps = c.self.inside.maps in
    let i = c.get.result in
    let new = c.record.new.self in
    let own : i ≡ page_bucket page = c.get.ensures.value ∙ c.bucket_of.ensures in
    let ok = recorded_in_bucket c.record.result (λ change. noted page change c.record.new.more) c.get.result page c.args.more.now c.index-self-get.result new maps c.args.self.now (omega arith) (omega arith) c.self.invariant.1 c.self.invariant.0 c.get.ensures.below own c.self.view_is c.record.ensures.ok in
    IfOk-weaker c.record.result _ _ (λ change records. records_tell c.args.self.now (all_with maps i new) page (key_of_page page) c.args.more.now (noted page change c.record.new.more) records) ok

pub returns-clause-err : goal.returns-clause-err
returns-clause-err c =
    let maps = c.self.inside.maps in
    let i = c.get.result in
    let d = c.index-self-get.result in
    let new = c.record.new.self in
    let own : i ≡ page_bucket c.args.page = c.get.ensures.value ∙ c.bucket_of.ensures in
    let long : length maps ≡ 64 = c.self.invariant.0 in
    let there : i < length maps = omega (arith, long, c.get.ensures.below) in
    let same = subst (λ b. OnErr c.record.result (full b new ≡ full b (get_or maps i d))) (sym own) c.record.ensures.err in
    unchanged c.record.result i d new maps c.args.self.now there c.self.view_is same
