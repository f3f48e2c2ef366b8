use Rattle.std.proofs.Common.{ap, refl, ◌∙◌}
use Rattle.std.proofs.lemmas.Result.{err_from_is_err_and}
use Rattle.warm_pool.specs.View.{view_of}
use Rattle.warm_gossip.specs.declared.fault.NodeFault.TheVariants.{Pool}
use Rattle.warm_gossip.proofs.WarmingLemmas.{warms_failed}
use Rattle.warm_gossip.proofs.node.Node.write_back.Goals as goal

pub returns-in_err-write_back_all-clause-refused : goal.returns-in_err-write_back_all-clause-refused
returns-in_err-write_back_all-clause-refused g c =
    let given = err_from_is_err_and c.from_residual.result c.from_residual.ensures.1 in
    let refused = c.in_err-write_back_all.ensures.refused.cause in
    rw (given.1, ← c.self.view_is) (given.2 ∙ ap Pool refused.0, (refl, (refused.1.device, refused.1.fails)))

pub returns-in_err-write_back_all-clause-stopped : goal.returns-in_err-write_back_all-clause-stopped
returns-in_err-write_back_all-clause-stopped g c =
    let given = err_from_is_err_and c.from_residual.result c.from_residual.ensures.1 in
    rw (given.1, ← c.self.view_is) c.in_err-write_back_all.ensures.refused.cause.1

-- a refusal leaves the passed pages passed
pub invariant_of-self : goal.invariant_of-self
invariant_of-self g c =
    let h = c.self.inside.peer.history in
    let stops = c.in_err-write_back_all.ensures.refused.cause.1 in (
      c.write_back_all.ensures.ranked h c.self.invariant.0,
      warms_failed h (view_of c.self.inside.pool) _ c.self.inside.warm_up stops.device stops.fails c.self.invariant.1,
    )
