use Rattle.std.proofs.Common.{subst, sym}
use Rattle.warm_pool.specs.View.{view_of, Holds}
use Rattle.warm_pool.proofs.PoolLemmas.{held_some, held_there}
use Rattle.warm_gossip.specs.State.{NodeState}
use Rattle.warm_gossip.proofs.LendingLemmas.{lent_keeps}
use Rattle.warm_gossip.proofs.node.Node.bytes_mut.Goals as goal

pub invariant_of-self-lent : goal.invariant_of-self-lent
invariant_of-self-lent g c = λ w.
    let holds = subst (λ (s : NodeState). Holds (view_of s.pool) c.args.slot) (sym c.self.view_is) c.requires.holds in
    let pool = c.prove_is_pool.ensures in
    lent_keeps c.self.inside.pool c.args.slot pool (held_there pool c.args.slot holds) (held_some pool c.args.slot holds) w c.self.inside.peer.history c.self.inside.warm_up c.self.invariant
