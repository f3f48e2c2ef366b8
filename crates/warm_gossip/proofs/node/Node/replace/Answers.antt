use Rattle.warm_pool.specs.View.{view_of}
use Rattle.warm_gossip.proofs.WarmingLemmas.{not_retired, retired_count, warms_again}
use Rattle.warm_gossip.proofs.node.Node.replace.Goals as goal

-- a refusal leaves the passed pages passed
pub invariant_of-self : goal.invariant_of-self
invariant_of-self g c =
    let h = c.self.inside.peer.history in (
      c.replace.ensures.ranked h c.self.invariant.0,
      not_retired h (view_of c.self.inside.pool) _ c.self.inside.warm_up c.args.dev _ _ c.in_err-old.ensures.refused.cause c.self.invariant.1,
    )

-- the warm-up begins again
pub invariant_of-self-2 : goal.invariant_of-self-2
invariant_of-self-2 g c =
    let h = c.self.inside.peer.history in (
      c.replace.ensures.ranked h c.self.invariant.0,
      warms_again h (view_of c.self.inside.pool) _ c.self.inside.warm_up (retired_count c.in_ok-old.ensures.done.retires.retired) c.self.invariant.1,
    )

pub returns-in_err-old-clause-ranked : goal.returns-in_err-old-clause-ranked
returns-in_err-old-clause-ranked g c = rw (← c.self.view_is) c.replace.ensures.ranked
