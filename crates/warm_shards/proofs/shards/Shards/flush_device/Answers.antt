use Rattle.std.proofs.Common.{length}
use Rattle.warm_shards.proofs.EngineCalls.{flushed_frames, frames_shard}
use Rattle.warm_shards.proofs.PoolCalls.{after_call, found_below}
use Rattle.warm_shards.proofs.shards.Shards.flush_device.Goals as goal

pub invariant_of-self : goal.invariant_of-self
invariant_of-self g c =
    after_call c.index_mut.result.now c.self.invariant (found_below c.self.view_is c.requires.there) c.index_mut.ensures.value (λ number latest.
    frames_shard (length c.self.inside.nodes.items) number latest c.args.shard c.index_mut.result.now c.flush_device.new.self c.flush_device.ensures.asked.known (flushed_frames c.args.dev c.index_mut.result.now c.flush_device.new.self c.flush_device.result c.flush_device.ensures.asked))
