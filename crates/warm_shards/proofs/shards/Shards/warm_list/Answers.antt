use Rattle.std.proofs.Common.{refl, sym, ◌∙◌}
use Rattle.warm_history.specs.Histories.{references_of}
use Rattle.warm_history.proofs.HistoryLemmas.{IsHistory-history}
use Rattle.warm_history.proofs.JoinLemmas.{history_of_own_references}
use Rattle.warm_shards.specs.Shards.{held, whole}
use Rattle.warm_shards.proofs.shards.Shards.warm_list.Goals as goal

pub returns : goal.returns
returns g c = λ pool.
    let ns = c.args.self.now in
    let stands = c.in_ok-history.ensures ∙ sym (history_of_own_references (whole ns) (IsHistory-history (held ns))) in
    (c.of.ensures ∙ c.in_ok-pages.ensures (references_of (whole ns)) stands, refl)
