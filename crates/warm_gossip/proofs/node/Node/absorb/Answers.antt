use Rattle.warm_pool.specs.View.{view_of}
use Rattle.warm_gossip.proofs.PassedLemmas.{noted}
use Rattle.warm_gossip.proofs.RaisedLemmas.{absorbed_agrees, absorbed_raises}
use Rattle.warm_gossip.proofs.node.Node.absorb.Goals as goal

pub invariant_of-self-2 : goal.invariant_of-self-2
invariant_of-self-2 g c =
    let h = c.self.inside.peer.history in
    let agrees = absorbed_agrees h c.args.batch.now in (
      rw c.history.ensures at (c.refresh.ensures.ranked h c.self.invariant.0 (rw (c.history.ensures, c.in_ok-changed.ensures.exact) agrees)),
      rw (c.in_ok-changed.ensures.exact, c.refresh.ensures.same) (noted h _ (view_of c.self.inside.pool) _ c.self.inside.warm_up c.note.new.self (absorbed_raises h c.args.batch.now) c.note.ensures c.self.invariant.1),
    )
