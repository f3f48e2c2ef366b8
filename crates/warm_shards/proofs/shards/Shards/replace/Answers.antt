use Rattle.std.proofs.Common.{length}
use Rattle.warm_pool.proofs.FlushLemmas.{if_err, if_ok}
use Rattle.warm_shards.proofs.EngineCalls.{retired_shard}
use Rattle.warm_shards.proofs.PoolCalls.{after_call, found_below}
use Rattle.warm_shards.proofs.shards.Shards.replace.Goals as goal

pub invariant_of-self : goal.invariant_of-self
invariant_of-self g c =
    after_call c.index_mut.result.now c.self.invariant (found_below c.self.view_is c.requires.there) c.index_mut.ensures.value (λ number latest.
    retired_shard (length c.self.inside.nodes.items) number latest c.args.shard c.index_mut.result.now c.replace.new.self c.args.dev (g.D.PageDevice.state c.args.device) (λ e. e.fault) c.replace.result c.replace.ensures.known (if_ok _ _ c.replace.result c.replace.ensures.done (λ given done. done.retires.retired)) (if_err _ _ c.replace.result c.replace.ensures.refused (λ e fails. fails.cause)))
