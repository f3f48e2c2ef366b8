use Rattle.std.proofs.Common.{ℕ, ◌<◌, sym, ap, subst, ◌∙◌}
use Rattle.std.proofs.lemmas.Bool.{lt-ltb, ltb-true}
use Rattle.warm_history.specs.Histories.{HistoryView}
use Rattle.warm_shards.proofs.AnswerLemmas.{first_horizon}
use Rattle.warm_shards.proofs.answers.is_later.Goals as goal

pub returns : goal.returns
returns g c =
    let is = c.horizon.ensures.value ∙ ap (λ (h : HistoryView). h.horizon) c.history.ensures ∙ first_horizon c.args.nodes.now.items c.index.result.now c.index.result.now c.requires c.index.ensures in
    (λ less. subst (λ (h : ℕ). h < c.args.time) is (ltb-true c.horizon.result c.args.time less), λ less. lt-ltb c.horizon.result c.args.time (subst (λ (h : ℕ). h < c.args.time) (sym is) less))
