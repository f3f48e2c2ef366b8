use Rattle.std.proofs.Common.{length}
use Rattle.warm_shards.proofs.EngineCalls.{page_frames, frames_shard}
use Rattle.warm_shards.proofs.PoolCalls.{after_call, found_below}
use Rattle.warm_shards.proofs.shards.Shards.write_back_page.Goals as goal

pub invariant_of-self : goal.invariant_of-self
invariant_of-self g c =
    after_call c.index_mut.result.now c.self.invariant (found_below c.self.view_is c.shard_of-shard.ensures.below) c.index_mut.ensures.value (λ number latest.
    frames_shard (length c.self.inside.nodes.items) number latest c.shard_of-shard.result c.index_mut.result.now c.write_back_page.new.self c.write_back_page.ensures.asked.known (page_frames c.args.page c.index_mut.result.now c.write_back_page.new.self c.write_back_page.result c.write_back_page.ensures.asked))
