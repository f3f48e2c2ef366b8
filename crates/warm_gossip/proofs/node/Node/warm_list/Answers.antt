use Rattle.std.proofs.Common.{refl, sym}
use Rattle.warm_history.specs.Histories.{references_of}
use Rattle.warm_history.proofs.JoinLemmas.{history_of_own_references}
use Rattle.warm_gossip.proofs.node.Node.warm_list.Goals as goal

pub returns : goal.returns
returns g c =
    let h = c.history-history.result.now in
    let hottest = c.in_ok-pages.ensures (references_of h) (sym (history_of_own_references h c.prove_is_history.ensures)) in
    rw (← c.self.view_is, c.of.ensures, hottest, c.history-history.ensures) (refl, refl)
