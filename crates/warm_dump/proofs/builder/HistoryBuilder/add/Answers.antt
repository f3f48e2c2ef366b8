use Rattle.std.proofs.Common.{ap, ◌∙◌}
use Rattle.warm_history.specs.Histories.{HistoryView, history_of_entries_at, join}
use Rattle.warm_dump.proofs.BuilderLemmas.{added}
use Rattle.warm_dump.proofs.builder.HistoryBuilder.add.Goals as goal

pub returns : goal.returns
returns c =
    added c.self.inside.history c.raise.new.self c.args.horizon c.self.inside.waiting.items c.args.entries.now c.extend_from_slice.new.self.items c.raise.ensures.exact c.in_ok-extend_from_slice.ensures.items
    ∙ ap (λ (h : HistoryView). join h (history_of_entries_at c.args.horizon c.args.entries.now)) c.self.view_is
