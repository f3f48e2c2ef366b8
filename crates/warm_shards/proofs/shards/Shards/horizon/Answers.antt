use Rattle.std.proofs.Common.{List, ap, ◌∙◌}
use Rattle.warm_gossip.specs.State.{NodeState}
use Rattle.warm_shards.specs.Shards.{whole}
use Rattle.warm_shards.proofs.AreShardsLemmas.{some_shards}
use Rattle.warm_shards.proofs.Buckets.{shard_horizon}
use Rattle.warm_shards.proofs.Calls.{read_at}
use Rattle.warm_shards.proofs.shards.Shards.horizon.Goals as goal

pub returns : goal.returns
returns g c =
    let ns = c.self.inside.nodes.items in
    let some = some_shards ns c.self.invariant in
    c.horizon.ensures.value
    ∙ ap (λ h. h.horizon) c.history.ensures
    ∙ ap (λ (n : NodeState). n.history.horizon) (read_at ns 0 c.index.result.now c.index.result.now some c.index.ensures)
    ∙ shard_horizon ns 0 c.self.invariant some some
    ∙ ap (λ (xs : List NodeState). (whole xs).horizon) c.self.view_is
