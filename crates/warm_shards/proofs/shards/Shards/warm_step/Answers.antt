use Rattle.std.proofs.Common.{length}
use Rattle.warm_gossip.specs.declared.call.Call.TheVariants.{WarmStep}
use Rattle.warm_gossip.specs.declared.call.Reply.TheVariants.{Loaded}
use Rattle.warm_shards.proofs.PoolCalls.{after_call, answered_shard, found_below}
use Rattle.warm_shards.proofs.shards.Shards.warm_step.Goals as goal

pub invariant_of-self : goal.invariant_of-self
invariant_of-self g c =
    after_call c.index_mut.result.now c.self.invariant (found_below c.self.view_is c.requires.there) c.index_mut.ensures.value (λ number latest.
    answered_shard (length c.self.inside.nodes.items) number latest c.args.shard c.index_mut.result.now c.warm_step.new.self WarmStep (λ p. Loaded p) c.warm_step.result tt tt c.warm_step.ensures.step)
