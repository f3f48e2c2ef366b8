use Rattle.std.proofs.Common.{◌≡◌, ℕ, ap, sym, subst, ◌∙◌, length}
use Rattle.warm_maps.specs.BucketMaps.{all_pairs, KeysAscend}
use Rattle.warm_maps.specs.Cuts.{cut_at}
use Rattle.warm_maps.specs.NearJoins.{joined_maps, HasChanged, IsNear, NoFar, TellsBuckets}
use Rattle.warm_maps.specs.NearPairs.{fulls, near_pairs}
use Rattle.warm_maps.specs.Walks.{merged}
use Rattle.warm_maps.proofs.JoinedMaps.{if_ok, joined_fulls, kept_fulls, maps_joined, near_few, near_rise, no_far, on_err, on_ok, pairs_joined, tells_all}
use Rattle.warm_maps.proofs.NearParts.{AllKeys}
use Rattle.warm_maps.proofs.bucket_maps.BucketMaps.join.Goals as goal

pub join_maps-requires-clause-rise : goal.join_maps-requires-clause-rise
join_maps-requires-clause-rise c = near_rise 0 c.self.inside.maps (subst KeysAscend (sym c.self.view_is) c.requires.here.keys_ascend)

pub join_maps-requires-clause-more : goal.join_maps-requires-clause-more
join_maps-requires-clause-more c = near_rise 0 c.more.inside.maps (subst KeysAscend (sym c.more.view_is) c.requires.there.keys_ascend)

pub invariant_of-self : goal.invariant_of-self
invariant_of-self c =
    let ms = c.self.inside.maps in
    let rs = c.more.inside.maps in
    let none : NoFar rs = no_far 0 rs c.more.invariant.1 (subst (AllKeys IsNear) (sym c.more.view_is) c.requires.near) in
    let all = maps_joined c.join_maps.result c.args.horizon ms c.join_maps.new.maps rs c.join_maps.ensures.ok c.join_maps.ensures.err c.join_maps.ensures.far c.self.invariant.1 c.more.invariant.1 none (c.more.invariant.0 ∙ sym c.self.invariant.0) (c.join_maps.ensures.few (near_few 0 ms c.self.invariant.1)) in
    (all.0 ∙ c.self.invariant.0, all.1)

pub returns-clause-ok : goal.returns-clause-ok
returns-clause-ok c =
    let h : ℕ = c.args.horizon in
    let ms = c.self.inside.maps in
    let ns = c.join_maps.new.maps in
    let rs = c.more.inside.maps in
    let none : NoFar rs = no_far 0 rs c.more.invariant.1 (subst (AllKeys IsNear) (sym c.more.view_is) c.requires.near) in
    let long : length rs ≡ length ms = c.more.invariant.0 ∙ sym c.self.invariant.0 in
    on_ok c.join_maps.result (near_pairs ns ≡ joined_maps h (near_pairs ms) (near_pairs rs)) (all_pairs (fulls 0 ns) ≡ merged c.args.self.now (cut_at h c.args.more.now)) (λ near.
    pairs_joined h ms ns rs c.args.self.now c.args.more.now (joined_fulls h 0 ms ns rs near c.join_maps.ensures.far c.self.invariant.1 c.more.invariant.1 none long (c.join_maps.ensures.few (near_few 0 ms c.self.invariant.1))).0 c.self.invariant.1 c.more.invariant.1 long c.self.view_is c.more.view_is) c.join_maps.ensures.ok

pub returns-clause-changed : goal.returns-clause-changed
returns-clause-changed c =
    let h : ℕ = c.args.horizon in
    let ms = c.self.inside.maps in
    let ns = c.join_maps.new.maps in
    let rs = c.more.inside.maps in
    let none : NoFar rs = no_far 0 rs c.more.invariant.1 (subst (AllKeys IsNear) (sym c.more.view_is) c.requires.near) in
    let long : length rs ≡ length ms = c.more.invariant.0 ∙ sym c.self.invariant.0 in
    if_ok c.join_maps.result (near_pairs ns ≡ joined_maps h (near_pairs ms) (near_pairs rs)) (HasChanged h 0 (near_pairs ms) (near_pairs rs)) (λ set. TellsBuckets set c.args.self.now (all_pairs (fulls 0 ns))) (λ set near changed.
    let all = joined_fulls h 0 ms ns rs near c.join_maps.ensures.far c.self.invariant.1 c.more.invariant.1 none long (c.join_maps.ensures.few (near_few 0 ms c.self.invariant.1)) in
    tells_all h ms ns rs c.args.self.now c.args.more.now set all.0 c.self.invariant.1 all.1 c.more.invariant.1 none long c.self.invariant.0 c.self.view_is c.more.view_is c.requires.there.are_keys changed) c.join_maps.ensures.ok c.join_maps.ensures.changed

pub returns-clause-err : goal.returns-clause-err
returns-clause-err c =
    let ms = c.self.inside.maps in
    let ns = c.join_maps.new.maps in
    on_err c.join_maps.result (near_pairs ns ≡ near_pairs ms) (all_pairs (fulls 0 ns) ≡ c.args.self.now) (λ near. ap all_pairs (kept_fulls 0 ms ns near c.join_maps.ensures.far c.self.invariant.1).0 ∙ c.self.view_is) c.join_maps.ensures.err
