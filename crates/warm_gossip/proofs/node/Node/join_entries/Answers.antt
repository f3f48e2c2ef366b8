use Rattle.std.proofs.Common.{◌≤◌, subst, sym, ◌∙◌, arith}
use Rattle.std.proofs.lemmas.Bool.{eqb-true}
use Rattle.warm_history.specs.Histories.{IsHistory}
use Rattle.warm_history.proofs.HistoryLemmas.{IsHistory-history}
use Rattle.warm_pool.specs.View.{view_of}
use Rattle.warm_gossip.proofs.PassedLemmas.{noted}
use Rattle.warm_gossip.proofs.RaisedLemmas.{joined_agrees, joined_raises, kept_by_entries}
use Rattle.warm_gossip.proofs.node.Node.join_entries.Goals as goal

-- no entry changes
pub invariant_of-self-then-is_empty : goal.invariant_of-self-then-is_empty
invariant_of-self-then-is_empty g c =
    let whole = subst IsHistory c.history.ensures c.prove_is_history.ensures in
    let later = subst IsHistory (sym c.in_ok-changed.ensures.exact) (IsHistory-history _) in
    kept_by_entries c.self.inside.pool c.self.inside.peer.history _ c.self.inside.warm_up whole later (c.in_ok-changed.ensures.none (eqb-true _ _ (sym c.is_empty.ensures ∙ c.if-is_empty.true))) c.self.invariant

-- some entry changes, and the horizon does not
pub invariant_of-self-2 : goal.invariant_of-self-2
invariant_of-self-2 g c =
    let h = c.self.inside.peer.history in
    let le : c.args.horizon ≤ h.horizon = omega (arith, c.if-own-horizon.false, c.horizon-own.ensures) in
    let agrees = joined_agrees h c.args.horizon c.args.entries.now le in (
      rw c.history-2.ensures at (c.refresh.ensures.ranked h c.self.invariant.0 (rw (c.history-2.ensures, c.in_ok-changed.ensures.exact) agrees)),
      rw (c.in_ok-changed.ensures.exact, c.refresh.ensures.same) (noted h _ (view_of c.self.inside.pool) _ c.self.inside.warm_up c.note.new.self (joined_raises h c.args.horizon c.args.entries.now le) c.note.ensures c.self.invariant.1),
    )
