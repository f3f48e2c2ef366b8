use Rattle.std.proofs.Common.{max, ap, sym, ◌∙◌}
use Rattle.warm_history.specs.ReferenceSets.{with_horizon}
use Rattle.warm_history.specs.Histories.{references_of}
use Rattle.warm_history.proofs.HistoryLemmas.{horizon-history}
use Rattle.warm_peer.proofs.answers.greater.Goals as goal

pub returns : goal.returns
returns c = c.max.ensures ∙ ap (λ m. max m c.args.horizon) c.horizon.ensures.value ∙ sym (horizon-history (with_horizon c.args.horizon (references_of c.args.history.now)))
