use Rattle.std.proofs.Common.{length}
use Rattle.warm_gossip.specs.declared.call.Call.TheVariants.{Pin}
use Rattle.warm_gossip.specs.declared.call.Reply.TheVariants.{Pinned}
use Rattle.warm_shards.proofs.PoolCalls.{after_call, answered_shard, found_below, found_own}
use Rattle.warm_shards.proofs.shards.Shards.pin_filled.Goals as goal

pub invariant_of-self : goal.invariant_of-self
invariant_of-self g c =
    after_call c.index_mut.result.now c.self.invariant (found_below c.self.view_is c.shard_of-shard.ensures.below) c.index_mut.ensures.value (λ number latest.
    answered_shard (length c.self.inside.nodes.items) number latest c.shard_of-shard.result c.index_mut.result.now c.pin_filled.new.self (Pin c.args.page) (λ slot. Pinned slot) c.pin_filled.result tt (found_own c.args.page c.self.view_is c.shard_of-shard.ensures.value) c.pin_filled.ensures.step)

pub invariant_of-self-2 : goal.invariant_of-self-2
invariant_of-self-2 g c =
    after_call c.index_mut.result.now c.self.invariant (found_below c.self.view_is c.shard_of-shard.ensures.below) c.index_mut.ensures.value (λ number latest.
    answered_shard (length c.self.inside.nodes.items) number latest c.shard_of-shard.result c.index_mut.result.now c.pin_filled.new.self (Pin c.args.page) (λ slot. Pinned slot) c.pin_filled.result tt (found_own c.args.page c.self.view_is c.shard_of-shard.ensures.value) c.pin_filled.ensures.step)
