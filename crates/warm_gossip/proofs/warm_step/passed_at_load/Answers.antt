use Rattle.std.proofs.Common.{refl, sym, inr}
use Rattle.warm_history.specs.Histories.{references_of}
use Rattle.warm_history.proofs.JoinLemmas.{history_of_own_references}
use Rattle.warm_gossip.proofs.warm_step.passed_at_load.Goals as goal

pub returns-in-Less : goal.returns-in-Less
returns-in-Less c =
    let h = c.args.history.now in
    rw c.in-Some.is (inr (refl, sym (c.in-Less.ensures (references_of h) (sym (history_of_own_references h c.prove_is_history.ensures)))))
