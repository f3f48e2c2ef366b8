-- What entries that wait, or are joined, say beside a history.
use Rattle.std.proofs.Common.{◌≡◌, ℕ, max, List, [], ◌∷◌, ◌++◌, refl, sym, ap, subst, ◌∙◌, append_assoc, append-nil, arith}
use Rattle.std.proofs.Math.Nat.{le_refl}
use Rattle.warm_history.specs.Entry.{Entry}
use Rattle.warm_history.specs.ReferenceSets.{ReferenceSet, ◌∪◌}
use Rattle.warm_history.specs.Histories.{HistoryView, IsHistory, references_of_entry, references_of_entries, history, history_of_entries_at, join, references_of, StandsFor, TakesIn}
use Rattle.warm_history.specs.Losses.{raised}
use Rattle.warm_history.proofs.HistoryLemmas.{IsHistory-history, horizon-history}
use Rattle.warm_history.proofs.JoinLemmas.{history_first, raised_to_no_later}

pub references_of_entries-append : (es more : List Entry)
    → references_of_entries (es ++ more) ≡ references_of_entries es ++ references_of_entries more
references_of_entries-append [] more = refl
references_of_entries-append (e ∷ es) more = ap (λ t. references_of_entry e ++ t) (references_of_entries-append es more) ∙ sym (append_assoc (references_of_entry e) (references_of_entries es) (references_of_entries more))

same_sets : (S T : ReferenceSet) → S.horizon ≡ T.horizon → S.given ≡ T.given → history S ≡ history T
same_sets S T horizon references = λ i. history (record { horizon = horizon i; given = references i })

-- if nothing waits, the history is all
pub nothing_waits : (h : HistoryView) (n : List Entry) → IsHistory h → n ≡ []
    → join h (history_of_entries_at h.horizon n) ≡ h
nothing_waits h n whole none = ap (λ (es : List Entry). join h (history_of_entries_at h.horizon es)) none ∙ raised_to_no_later h h.horizon whole (le_refl h.horizon)

-- what waits is joined
pub settled : (h next : HistoryView) (w n : List Entry)
    → next ≡ join h (history_of_entries_at h.horizon w) → n ≡ []
    → join next (history_of_entries_at next.horizon n) ≡ join h (history_of_entries_at h.horizon w)
settled h next w n is none = nothing_waits next n (subst IsHistory (sym is) (IsHistory-history (references_of h ∪ references_of (history_of_entries_at h.horizon w)))) none ∙ is

-- nothing waits beside a history that was raised
pub closed : (h next : HistoryView) (horizon : ℕ) (n : List Entry) → next ≡ raised horizon h
    → n ≡ [] → join next (history_of_entries_at next.horizon n) ≡ next
closed h next horizon n is none = nothing_waits next n (subst IsHistory (sym is) (IsHistory-history (references_of h ∪ record { horizon = horizon; given = [] }))) none

max_both : (a b : ℕ) → max (max a b) (max a b) ≡ max (max a a) b
max_both a b = omega arith

-- more entries wait, beside the history raised to their horizon
pub added : (h next : HistoryView) (horizon : ℕ) (w es n : List Entry) → next ≡ raised horizon h
    → n ≡ w ++ es → join next (history_of_entries_at next.horizon n)
    ≡ join (join h (history_of_entries_at h.horizon w)) (history_of_entries_at horizon es)
added h next horizon w es n is more =
    let S = references_of h in
    let Z : ReferenceSet = record { horizon = horizon; given = [] } in
    let A = references_of (history_of_entries_at h.horizon w) in
    let B = references_of (history_of_entries_at horizon es) in
    let C = references_of (history_of_entries_at (max h.horizon horizon) (w ++ es)) in
    let at : next.horizon ≡ max h.horizon horizon = ap (λ (k : HistoryView). k.horizon) is ∙ horizon-history (S ∪ Z) in
    ap (λ (es : List Entry). join next (history_of_entries_at next.horizon es)) more
    ∙ ap (λ (m : ℕ). history (references_of next ∪ references_of (history_of_entries_at m (w ++ es)))) at
    ∙ ap (λ (k : HistoryView). history (references_of k ∪ C)) is
    ∙ history_first (S ∪ Z) C
    ∙ same_sets ((S ∪ Z) ∪ C) ((S ∪ A) ∪ B) (max_both h.horizon horizon)
    (ap (λ t. t ++ references_of_entries (w ++ es)) (append-nil S.given) ∙ ap (λ t. S.given ++ t) (references_of_entries-append w es) ∙ sym (append_assoc S.given (references_of_entries w) (references_of_entries es)))
    ∙ sym (history_first (S ∪ A) B)

pub taken : (old new : HistoryView) (horizon : ℕ) (es : List Entry)
    → new ≡ join old (history_of_entries_at horizon es)
    → TakesIn old (references_of (history_of_entries_at horizon es)) new
taken old new horizon es is = λ S stands. is ∙ ap (λ (h : HistoryView). history (references_of h ∪ references_of (history_of_entries_at horizon es))) stands ∙ history_first S (references_of (history_of_entries_at horizon es))

-- a history that stands for references stands for them at the later horizon once it is raised
pub stands_raised : (old new : HistoryView) (horizon : ℕ) (S : ReferenceSet)
    → new ≡ raised horizon old → StandsFor old S
    → StandsFor new (S ∪ record { horizon = horizon; given = [] })
stands_raised old new horizon S is stands = is ∙ ap (raised horizon) stands ∙ history_first S (record { horizon = horizon; given = [] })
