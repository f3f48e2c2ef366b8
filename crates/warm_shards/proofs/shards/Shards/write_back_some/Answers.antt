use Rattle.std.proofs.Common.{length}
use Rattle.warm_shards.proofs.EngineCalls.{some_frames, frames_shard}
use Rattle.warm_shards.proofs.PoolCalls.{after_call, found_below}
use Rattle.warm_shards.proofs.shards.Shards.write_back_some.Goals as goal

pub invariant_of-self : goal.invariant_of-self
invariant_of-self g c =
    after_call c.index_mut.result.now c.self.invariant (found_below c.self.view_is c.requires.there) c.index_mut.ensures.value (λ number latest.
    frames_shard (length c.self.inside.nodes.items) number latest c.args.shard c.index_mut.result.now c.write_back_some.new.self c.write_back_some.ensures.asked.known (some_frames c.args.limit c.index_mut.result.now c.write_back_some.new.self c.write_back_some.result c.write_back_some.ensures.asked))
