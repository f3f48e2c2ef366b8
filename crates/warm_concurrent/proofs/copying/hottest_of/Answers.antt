use Rattle.std.proofs.Common.{sym, ◌∙◌}
use Rattle.warm_history.specs.Histories.{references_of}
use Rattle.warm_history.proofs.JoinLemmas.{history_of_own_references}
use Rattle.warm_concurrent.proofs.copying.hottest_of.Goals as goal

pub returns : goal.returns
returns c =
    let h = c.args.history.now in
    c.of.ensures ∙ c.in_ok-pages.ensures (references_of h) (sym (history_of_own_references h c.prove_is_history.ensures))
