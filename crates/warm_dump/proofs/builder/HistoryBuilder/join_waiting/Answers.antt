use Rattle.std.proofs.Common.{List, ap, ◌∙◌}
use Rattle.warm_history.specs.Entry.{Entry}
use Rattle.warm_history.specs.Histories.{HistoryView, history_of_entries_at, join}
use Rattle.warm_dump.proofs.BuilderLemmas.{settled}
use Rattle.warm_dump.proofs.builder.HistoryBuilder.join_waiting.Goals as goal

pub returns : goal.returns
returns c =
    let h : HistoryView = c.self.inside.history in
    let exact = c.in_ok-join_all.ensures.exact ∙ ap (λ (es : List Entry). join h (history_of_entries_at h.horizon es)) c.as_slice-waiting.ensures.value in
    settled h c.join_all.new.history c.self.inside.waiting.items c.clear.new.self.items exact c.clear.ensures.items ∙ c.self.view_is
