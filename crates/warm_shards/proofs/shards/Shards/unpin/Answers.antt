use Rattle.std.proofs.Common.{length, arith}
use Rattle.warm_gossip.specs.declared.call.Call.TheVariants.{Unpin}
use Rattle.warm_gossip.specs.Clauses.{done}
use Rattle.warm_shards.proofs.PoolCalls.{after_call, answered_shard}
use Rattle.warm_shards.proofs.shards.Shards.unpin.Goals as goal

pub invariant_of-self : goal.invariant_of-self
invariant_of-self g c =
    after_call c.index_mut.result.now c.self.invariant (omega (arith, c.self.inside.nodes.ok.0, c.len.ensures)) c.index_mut.ensures.value (λ number latest.
    answered_shard (length c.self.inside.nodes.items) number latest c.args.at.shard c.index_mut.result.now c.unpin.new.self (Unpin c.args.at.slot) done c.unpin.result tt tt c.unpin.ensures.step)
