use Rattle.std.proofs.Common.{length, arith}
use Rattle.warm_gossip.specs.declared.call.Call.TheVariants.{Write}
use Rattle.warm_gossip.specs.Clauses.{done}
use Rattle.warm_shards.proofs.PoolCalls.{after_call, answered_shard}
use Rattle.warm_shards.proofs.shards.Shards.write.Goals as goal

pub invariant_of-self : goal.invariant_of-self
invariant_of-self g c =
    after_call c.index_mut.result.now c.self.invariant (omega (arith, c.self.inside.nodes.ok.0, c.len.ensures)) c.index_mut.ensures.value (λ number latest.
    answered_shard (length c.self.inside.nodes.items) number latest c.args.slot.shard c.index_mut.result.now c.write.new.self (Write c.args.slot.slot c.args.at c.args.bytes.now) done c.write.result tt tt c.write.ensures.step)
