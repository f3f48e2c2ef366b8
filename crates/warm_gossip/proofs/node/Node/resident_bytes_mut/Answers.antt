use Rattle.std.proofs.Common.{subst, sym}
use Rattle.warm_pool.specs.Pinning.{CanPinAgain}
use Rattle.warm_pool.proofs.UndonePinLemmas.{has_page}
use Rattle.warm_gossip.specs.State.{NodeState}
use Rattle.warm_gossip.proofs.LendingLemmas.{lent_keeps}
use Rattle.warm_gossip.proofs.node.Node.resident_bytes_mut.Goals as goal

pub invariant_of-self-lent : goal.invariant_of-self-lent
invariant_of-self-lent g c = λ w.
    let can = subst (λ (s : NodeState). CanPinAgain s.pool c.args.page c.args.slot) (sym c.self.view_is) c.requires.can in
    let pool = c.prove_is_pool.ensures in
    lent_keeps c.self.inside.pool c.args.slot pool can.there (has_page pool c.args.page c.args.slot can) w c.self.inside.peer.history c.self.inside.warm_up c.self.invariant
