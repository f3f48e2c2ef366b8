use Rattle.std.proofs.Common.{refl}
use Rattle.warm_gossip.proofs.PassedLemmas.{pinned}
use Rattle.warm_gossip.proofs.node.Node.pin.Goals as goal

-- a resident page that can take one more pin
pub invariant_of-self : goal.invariant_of-self
invariant_of-self g c =
    let h = c.self.inside.peer.history in (
      c.pin_again-placed.ensures.ranked h c.self.invariant.0,
      pinned h _ _ c.args.page c.pin_again-placed.result c.self.inside.warm_up c.passed_at_pin-self-inside.result c.passed_at_pin-self-inside.ensures
          (c.pin_again-placed.ensures.pinned h) c.pin_again-placed.ensures.evicted c.self.invariant.1,
    )

pub returns-in-Some-clause-step : goal.returns-in-Some-clause-step
returns-in-Some-clause-step g c = rw (← c.self.view_is) (refl, c.pin_again-placed.ensures.pinned c.self.inside.peer.history)
