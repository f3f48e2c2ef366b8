use Rattle.std.proofs.Common.{length}
use Rattle.warm_shards.proofs.PoolCalls.{after_call, found_below, settled_shard}
use Rattle.warm_shards.proofs.shards.Shards.write_back.Goals as goal

pub invariant_of-self : goal.invariant_of-self
invariant_of-self g c =
    after_call c.index_mut.result.now c.self.invariant (found_below c.self.view_is c.requires.there) c.index_mut.ensures.value (λ number latest.
    settled_shard (length c.self.inside.nodes.items) number latest c.args.shard c.index_mut.result.now c.write_back.new.self c.write_back.result c.write_back.ensures.same c.write_back.ensures.refused)
