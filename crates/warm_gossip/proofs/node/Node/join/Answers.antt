use Rattle.std.proofs.Common.{subst, sym, ◌∙◌}
use Rattle.std.proofs.lemmas.Bool.{eqb-true}
use Rattle.warm_history.specs.Histories.{IsHistory}
use Rattle.warm_history.proofs.HistoryLemmas.{IsHistory-history}
use Rattle.warm_gossip.proofs.RaisedLemmas.{kept_by_entries}
use Rattle.warm_gossip.proofs.node.Node.join.Goals as goal

-- no entry changes
pub invariant_of-self-then-is_empty : goal.invariant_of-self-then-is_empty
invariant_of-self-then-is_empty g c =
    let whole = subst IsHistory c.history.ensures c.prove_is_history.ensures in
    let later = subst IsHistory (sym c.in_ok-changed.ensures.exact) (IsHistory-history _) in
    kept_by_entries c.self.inside.pool c.self.inside.peer.history _ c.self.inside.warm_up whole later (c.in_ok-changed.ensures.none (eqb-true _ _ (sym c.is_empty.ensures ∙ c.if-is_empty.true))) c.self.invariant
