use Rattle.std.proofs.Common.{length}
use Rattle.warm_pool.proofs.FlushLemmas.{if_err, if_ok}
use Rattle.warm_shards.proofs.EngineCalls.{retired_shard}
use Rattle.warm_shards.proofs.PoolCalls.{after_call, found_below}
use Rattle.warm_shards.proofs.shards.Shards.retire.Goals as goal

pub invariant_of-self : goal.invariant_of-self
invariant_of-self g c =
    after_call c.index_mut.result.now c.self.invariant (found_below c.self.view_is c.requires.there) c.index_mut.ensures.value (λ number latest.
    retired_shard (length c.self.inside.nodes.items) number latest c.args.shard c.index_mut.result.now c.retire.new.self c.args.dev (g.D.PageDevice.state c.args.device) (λ e. e.fault) c.retire.result c.retire.ensures.known (if_ok _ _ c.retire.result c.retire.ensures.done (λ given done. done.retired)) (if_err _ _ c.retire.result c.retire.ensures.refused (λ e fails. fails.cause)))
