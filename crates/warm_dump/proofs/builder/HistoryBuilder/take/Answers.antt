use Rattle.std.proofs.Common.{ap, ◌∙◌}
use Rattle.warm_history.specs.Histories.{HistoryView, history_of_entries_at, join}
use Rattle.warm_dump.proofs.BuilderLemmas.{taken}
use Rattle.warm_dump.proofs.EndLemmas.{on_ok}
use Rattle.warm_dump.proofs.builder.HistoryBuilder.take.Goals as goal

pub returns : goal.returns
returns c =
    on_ok c.join_unless_useful.result _ (taken c.args.self.now c.join_unless_useful.new.self c.args.horizon c.args.entries.now
    (c.join_unless_useful.ensures ∙ c.in_ok-add.ensures ∙ ap (λ (h : HistoryView). join h (history_of_entries_at c.args.horizon c.args.entries.now)) c.make_room.ensures))
