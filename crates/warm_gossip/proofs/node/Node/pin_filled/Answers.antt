use Rattle.std.proofs.Common.{subst}
use Rattle.warm_history.specs.Histories.{IsHistory}
use Rattle.warm_gossip.proofs.PassedLemmas.{filled}
use Rattle.std.proofs.lemmas.Result.{err_from_is_err_and}
use Rattle.warm_gossip.proofs.node.Node.pin_filled.Goals as goal

pub invariant_of-self-2 : goal.invariant_of-self-2
invariant_of-self-2 g c = (
  rw c.history.ensures at c.pin_filled.ensures.ranked,
  filled c.self.inside.peer.history _ _ c.args.page c.in_ok-filled.filled c.self.inside.warm_up c.passed_at_fill-self-inside.result
      (subst IsHistory c.history-2.ensures c.prove_is_history.ensures) (rw c.history-history.ensures at c.passed_at_fill-self-inside.ensures)
      (rw c.history.ensures at c.in_ok-filled.ensures.done.pinned) c.in_ok-filled.ensures.done.evicted c.self.invariant.1,
)

pub returns-in_err-filled-clause-refused : goal.returns-in_err-filled-clause-refused
returns-in_err-filled-clause-refused g c =
    let given = err_from_is_err_and c.from_residual.result c.from_residual.ensures.1 in
    rw (given.1, given.2, ← c.self.view_is) (rw c.history.ensures at c.in_err-filled.ensures.refused)
