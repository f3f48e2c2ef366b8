-- A history that is joined to that of no references.
use Rattle.std.proofs.Common.{◌≡◌, [], ap, ◌∙◌}
use Rattle.std.proofs.Math.Nat.{zero-max}
use Rattle.warm_history.specs.Histories.{HistoryView, IsHistory, entries_of, history, history_of_entries, join, references_of, references_of_entries}
use Rattle.warm_history.specs.ReferenceSets.{◌∪◌}
use Rattle.warm_history.proofs.JoinLemmas.{history_of_own_references}

-- the join of no references and of a history is the history
pub joined_to_none : (h : HistoryView) → IsHistory h → join (history_of_entries []) h ≡ h
joined_to_none h whole =
    let same : references_of (history_of_entries []) ∪ references_of h ≡ references_of h = λ i. record { horizon = zero-max h.horizon i; given = references_of_entries (entries_of h) } in
    ap history same ∙ history_of_own_references h whole
