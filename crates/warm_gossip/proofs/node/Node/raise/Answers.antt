use Rattle.std.proofs.Common.{subst, sym, ◌∙◌, arith}
use Rattle.std.proofs.lemmas.Bool.{eqb-true}
use Rattle.warm_history.specs.Histories.{IsHistory}
use Rattle.warm_history.proofs.HistoryLemmas.{IsHistory-history}
use Rattle.warm_history.proofs.JoinLemmas.{raised_to_no_later}
use Rattle.warm_pool.specs.View.{view_of}
use Rattle.warm_gossip.proofs.RaisedLemmas.{kept_by_entries}
use Rattle.warm_gossip.proofs.NextWarmLemmas.{same_node}
use Rattle.warm_gossip.proofs.node.Node.raise.Goals as goal

-- a time that is not past the horizon changes nothing
pub returns-then-time-own-clause-step : goal.returns-then-time-own-clause-step
returns-then-time-own-clause-step g c =
    let same = raised_to_no_later c.self.inside.peer.history c.args.time (rw c.history.ensures at c.prove_is_history.ensures) (omega (arith, c.if-time-own.true, c.horizon-own.ensures)) in
    rw (← c.self.view_is) (same_node c.self.inside.peer.id (view_of c.self.inside.pool) _ _ (sym same), c.horizon-own.ensures)

-- no entry loses a stamp
pub invariant_of-self : goal.invariant_of-self
invariant_of-self g c =
    let whole = subst IsHistory c.history.ensures c.prove_is_history.ensures in
    let later = subst IsHistory (sym c.raise-lost.ensures.exact) (IsHistory-history _) in
    kept_by_entries c.self.inside.pool c.self.inside.peer.history _ c.self.inside.warm_up whole later (c.raise-lost.ensures.none (eqb-true _ _ (sym c.is_empty.ensures ∙ c.if-is_empty.true))) c.self.invariant
