use Rattle.std.proofs.Common.{arith}
use Rattle.warm_visits.proofs.PartSorts.{shard_is, size_within, sizes_more, sizes_none}
use Rattle.warm_visits.proofs.batch_parts.sizes_of.Goals as goal

pub overflow_add-index_mut : goal.overflow_add-index_mut
overflow_add-index_mut g c =
    let few = size_within (λ item. g.T.NamesPage.named item) c.args.count c.loop-item.item-index c.shard_of-shard.result c.index_mut.result.now c.args.items.now c.loop-item.sizes.items c.loop-item.invariant (omega (arith, c.loop-item-test.true)) c.shard_of-shard.ensures.below c.index_mut.ensures.value in
    omega (arith, few, c.loop-item-test.true)

pub loop-item-init : goal.loop-item-init
loop-item-init g c =
    sizes_none (λ item. g.T.NamesPage.named item) c.args.count c.args.items.now c.in_ok-sizes.sizes.items (c.in_ok-sizes.ensures.items_if_clones_equal (λ y same. same))

pub loop-item-preserved : goal.loop-item-preserved
loop-item-preserved g c =
    let x = c.item-item.result in
    let s = c.shard_of-shard.result in
    let is = shard_is (λ item. g.T.NamesPage.named item) c.args.count s c.named.result x c.shard_of-shard.ensures.value c.named.ensures in
    sizes_more (λ item. g.T.NamesPage.named item) c.args.count c.loop-item.item-index s c.index_mut.result.now c.args.items.now x c.loop-item.sizes.items c.loop-item.invariant c.loop-item-test.true c.item-item.is is c.shard_of-shard.ensures.below c.index_mut.ensures.value
