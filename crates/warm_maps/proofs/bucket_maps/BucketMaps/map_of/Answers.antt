use Rattle.std.proofs.Common.{◌≡◌, ◌<◌, ap, sym, ◌∙◌, arith, length, filter}
use Rattle.warm_maps.specs.NearPairs.{fulls}
use Rattle.warm_maps.proofs.BucketParts.{chosen_joined}
use Rattle.warm_maps.proofs.FullMaps.{buckets_of, map_at_fulls, map_of}
use Rattle.warm_maps.proofs.bucket_maps.BucketMaps.map_of.Goals as goal

pub returns-clause-holds : goal.returns-clause-holds
returns-clause-holds c = λ test passes.
    let n = c.args.number in
    let maps = c.self.inside.maps in
    let long : length maps ≡ 64 = c.self.invariant.0 in
    let there : n < length maps = omega arith in
    ap (filter (λ e. test e.0)) (sym (map_at_fulls n c.index-self-number.result maps there))
    ∙ chosen_joined n 0 n test (fulls 0 maps) (omega arith) passes (buckets_of 0 maps c.self.invariant.1)
    ∙ ap (filter (λ e. test e.0)) c.self.view_is

pub returns-clause-map : goal.returns-clause-map
returns-clause-map c =
    let n = c.args.number in
    let maps = c.self.inside.maps in
    let long : length maps ≡ 64 = c.self.invariant.0 in
    let there : n < length maps = omega arith in
    map_of n c.index-self-number.result maps c.self.invariant.1 there
