use Rattle.warm_gossip.proofs.PassedLemmas.{pinned}
use Rattle.warm_gossip.proofs.node.Node.pin_any.Goals as goal

pub invariant_of-self-2 : goal.invariant_of-self-2
invariant_of-self-2 g c = (
  rw c.history.ensures at c.pin_placed.ensures.ranked,
  pinned c.self.inside.peer.history _ _ c.args.page c.in_ok-placed.placed c.self.inside.warm_up c.passed_at_pin-self-inside.result c.passed_at_pin-self-inside.ensures
      (rw c.history.ensures at c.in_ok-placed.ensures.done.pin.pinned) c.in_ok-placed.ensures.done.evicted c.self.invariant.1,
)
