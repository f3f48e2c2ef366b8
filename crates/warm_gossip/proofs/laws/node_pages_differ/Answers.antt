use Rattle.std.proofs.Common.{subst}
use Rattle.warm_pool.specs.State.{IsPool}
use Rattle.warm_gossip.proofs.WarmUpLemmas.{pages_differ}
use Rattle.warm_gossip.proofs.laws.node_pages_differ.Goals as goal

pub returns : goal.returns
returns g c = pages_differ c.args.node.now.pool (subst IsPool c.pool.ensures c.prove_is_pool.ensures)
