use Rattle.std.proofs.Common.{ap, sym, ◌∙◌}
use Rattle.warm_history.specs.Histories.{references_of}
use Rattle.warm_history.proofs.JoinLemmas.{history_of_own_references}
use Rattle.warm_rank.specs.Keys.{rank_key}
use Rattle.warm_pool.proofs.pool.rank_of.Goals as goal

pub returns : goal.returns
returns c =
    let own = sym (history_of_own_references c.args.history.now c.prove_is_history.ensures) in
    c.key_of.ensures ∙ ap (rank_key c.args.page) (c.get.ensures (references_of c.args.history.now) own)
