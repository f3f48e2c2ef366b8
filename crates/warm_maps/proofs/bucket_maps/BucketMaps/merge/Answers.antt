use Rattle.std.proofs.Common.{◌≡◌, ◌<◌, sym, subst, ◌∙◌, arith, length}
use Rattle.warm_maps.specs.BucketMaps.{all_pairs, KeysAscend}
use Rattle.warm_maps.specs.NearPairs.{fulls, widened}
use Rattle.warm_maps.proofs.BucketSteps.{AllIn, map_rises}
use Rattle.warm_maps.proofs.FullMaps.{length_set, map_at_fulls, map_of, maps_with, unchanged}
use Rattle.warm_maps.proofs.MergedBuckets.{merged_in_own, tells_in_own}
use Rattle.warm_maps.proofs.NearParts.{widened_inside}
use Rattle.warm_maps.proofs.bucket_maps.BucketMaps.merge.Goals as goal

pub merge-requires-clause-map : goal.merge-requires-clause-map
merge-requires-clause-map c =
    let maps = c.self.inside.maps in
    let i = c.args.number in
    let long : length maps ≡ 64 = c.self.invariant.0 in
    let there : i < length maps = omega arith in
    map_of i c.index-self-number.result maps c.self.invariant.1 there

pub merge-requires-clause-rise : goal.merge-requires-clause-rise
merge-requires-clause-rise c =
    let maps = c.self.inside.maps in
    let i = c.args.number in
    let long : length maps ≡ 64 = c.self.invariant.0 in
    let there : i < length maps = omega arith in
    let rise : KeysAscend (all_pairs (fulls 0 maps)) = subst KeysAscend (sym c.self.view_is) c.requires.rise in
    subst KeysAscend (map_at_fulls i c.index-self-number.result maps there) (map_rises i (fulls 0 maps) rise)

pub invariant_of-self : goal.invariant_of-self
invariant_of-self c =
    let maps = c.self.inside.maps in
    let i = c.args.number in
    let new = c.merge.new.self in
    (length_set maps i new ∙ c.self.invariant.0, maps_with i new maps c.self.invariant.1 c.merge.ensures.map)

pub returns-clause-ok : goal.returns-clause-ok
returns-clause-ok c =
    let maps = c.self.inside.maps in
    let i = c.args.number in
    let long : length maps ≡ 64 = c.self.invariant.0 in
    let there : i < length maps = omega arith in
    let run = widened i c.args.run.now in
    let inside : AllIn i run = widened_inside i c.args.run.now c.requires.near in
    merged_in_own c.merge.result i c.index-self-number.result c.merge.new.self maps run c.args.self.now c.self.invariant.1 there inside c.self.view_is c.merge.ensures.ok

pub returns-clause-tells : goal.returns-clause-tells
returns-clause-tells c =
    let maps = c.self.inside.maps in
    let i = c.args.number in
    let long : length maps ≡ 64 = c.self.invariant.0 in
    let there : i < length maps = omega arith in
    let run = widened i c.args.run.now in
    let inside : AllIn i run = widened_inside i c.args.run.now c.requires.near in
    tells_in_own c.merge.result i c.index-self-number.result c.merge.new.self maps run c.args.self.now c.self.invariant.1 there inside c.merge.ensures.map c.self.view_is c.merge.ensures.tells

pub returns-clause-err : goal.returns-clause-err
returns-clause-err c =
    let maps = c.self.inside.maps in
    let i = c.args.number in
    let long : length maps ≡ 64 = c.self.invariant.0 in
    let there : i < length maps = omega arith in
    unchanged c.merge.result i c.index-self-number.result c.merge.new.self maps c.args.self.now there c.self.view_is c.merge.ensures.err
