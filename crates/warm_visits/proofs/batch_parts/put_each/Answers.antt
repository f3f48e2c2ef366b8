use Rattle.std.proofs.Common.{◌≡◌, length, subst, arith}
use Rattle.warm_visits.proofs.PartSorts.{IsSorting, place_within, shard_is, sort_begins, sort_more}
use Rattle.warm_visits.proofs.PartCuts.{sorted_ends, sorted_parts}
use Rattle.warm_visits.proofs.batch_parts.put_each.Goals as goal

pub index_mut-requires : goal.index_mut-requires
index_mut-requires g c =
    let x = c.item-item.result in
    let s = c.shard_of-shard.result in
    let is = shard_is (λ item. g.T.NamesPage.named item) c.args.count s c.named.result x c.shard_of-shard.ensures.value c.named.ensures in
    let within = place_within (λ item. g.T.NamesPage.named item) c.args.count c.loop-item.item-index s c.index-place.result.now c.args.items.now c.loop-item.list.items c.loop-item.next.items x c.loop-item.invariant c.loop-item-test.true c.item-item.is is c.shard_of-shard.ensures.below c.index-place.ensures in
    omega (arith, within, c.loop-item.list.ok.0)

pub overflow_add-place : goal.overflow_add-place
overflow_add-place g c =
    let x = c.item-item.result in
    let s = c.shard_of-shard.result in
    let is = shard_is (λ item. g.T.NamesPage.named item) c.args.count s c.named.result x c.shard_of-shard.ensures.value c.named.ensures in
    let within = place_within (λ item. g.T.NamesPage.named item) c.args.count c.loop-item.item-index s c.index-place.result.now c.args.items.now c.loop-item.list.items c.loop-item.next.items x c.loop-item.invariant c.loop-item-test.true c.item-item.is is c.shard_of-shard.ensures.below c.index-place.ensures in
    omega (arith, within, c.loop-item.invariant.long)

pub loop-item-init : goal.loop-item-init
loop-item-init g c =
    sort_begins (λ item. g.T.NamesPage.named item) c.args.count c.args.items.now c.args.list.items c.args.next.items c.requires.starts c.requires.room

pub loop-item-preserved : goal.loop-item-preserved
loop-item-preserved g c =
    let x = c.item-item.result in
    let s = c.shard_of-shard.result in
    let is = shard_is (λ item. g.T.NamesPage.named item) c.args.count s c.named.result x c.shard_of-shard.ensures.value c.named.ensures in
    sort_more (λ item. g.T.NamesPage.named item) c.args.count c.loop-item.item-index s c.index-place.result.now c.args.items.now c.loop-item.list.items c.loop-item.next.items x c.loop-item.invariant c.loop-item-test.true c.item-item.is is c.shard_of-shard.ensures.below c.index-place.ensures

pub invariant_of-result : goal.invariant_of-result
invariant_of-result g c =
    let at : c.loop-item.item-index ≡ length c.args.items.now = omega (arith, c.loop-item-test.false, c.loop-item.auto.item-index-end) in
    let so = subst (λ k. IsSorting (λ item. g.T.NamesPage.named item) c.args.count k c.args.items.now c.loop-item.list.items c.loop-item.next.items) at c.loop-item.invariant in
    sorted_ends (λ item. g.T.NamesPage.named item) c.args.count c.args.items.now c.loop-item.list.items c.loop-item.next.items so

pub returns : goal.returns
returns g c =
    let at : c.loop-item.item-index ≡ length c.args.items.now = omega (arith, c.loop-item-test.false, c.loop-item.auto.item-index-end) in
    let so = subst (λ k. IsSorting (λ item. g.T.NamesPage.named item) c.args.count k c.args.items.now c.loop-item.list.items c.loop-item.next.items) at c.loop-item.invariant in
    sorted_parts (λ item. g.T.NamesPage.named item) c.args.count c.args.items.now c.loop-item.list.items c.loop-item.next.items so
