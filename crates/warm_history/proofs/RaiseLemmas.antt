-- What entries become that take references in, and are cut at a horizon.
use Rattle.std.proofs.Common.{◌≡◌, ℕ, List, [], ◌++◌, max, sym, ap, subst, ◌∙◌, arith, ◌≤◌}
use Rattle.std.proofs.lemmas.List.{append-nil}
use Rattle.std.proofs.Math.Nat.{max-zero, le_refl}
use Rattle.warm_stamps.specs.declared.Reference.{Reference}
use Rattle.warm_maps.specs.declared.hist.Entry.{Entry}
use Rattle.warm_history.specs.ReferenceSets.{ReferenceSet, references_from, set_of_list, with_horizon, ◌∪◌}
use Rattle.warm_history.specs.KeptEntries.{kept_entries}
use Rattle.warm_history.specs.ListHistories.{list_history, list_references_of}
use Rattle.warm_history.specs.Histories.{entries_of, history_of_entries_at, history, references_of, IsHistory, NoneOlder}
use Rattle.warm_maps.specs.MapPairs.{MapPairs, AreKept}
use Rattle.warm_history.specs.maps.KeptPairs.{kept}
use Rattle.warm_history.proofs.KeptLemmas.{history-kept, kept-append, kept_within, kept_after, kept_refs}
use Rattle.warm_history.proofs.ListJoinLemmas as join_list
use Rattle.warm_history.proofs.HistoryLemmas.{history-is, IsHistory-history, entries-history}
use Rattle.warm_history.proofs.maps.KeptPairLemmas.{IsHistory-kept}

-- what pairs keep, none of it older than the horizon, is a history
pub whole_of : (m : ℕ) (pairs : MapPairs) → AreKept pairs → NoneOlder m (kept pairs)
    → IsHistory (history_of_entries_at m (kept pairs))
whole_of m pairs are none = let whole = IsHistory-kept pairs are in record { pages_ascend = whole.pages_ascend; stamps_descend = whole.stamps_descend; none_older = none }

own_entries : (m : ℕ) (es : List Entry) → IsHistory (history_of_entries_at m es)
    → es ≡ list_history (list_references_of es)
own_entries m es whole = sym (join_list.history_of_own_references es (record { pages_ascend = whole.pages_ascend; stamps_descend = whole.stamps_descend }))

-- of a list that isn't older than the horizon, the history isn't
pub none_in_history : (m : ℕ) (es : List Entry) (rs : List Reference) → references_from m rs ≡ rs
    → es ≡ list_history rs → NoneOlder m es
none_in_history m es rs all is =
    let S : ReferenceSet = record { horizon = m; given = rs } in
    let same : entries_of (history S) ≡ es = entries-history S ∙ ap list_history all ∙ sym is in
    subst (NoneOlder m) same (subst (λ h. NoneOlder h.horizon (entries_of (history S))) (history-is S) (IsHistory-history S).none_older)

-- what is not older than a later time isn't older than the horizon
pub recent_both : (m k : ℕ) (es : List Entry) (rs : List Reference) → m ≤ k → NoneOlder m es
    → references_from m (list_references_of es ++ references_from k rs)
    ≡ list_references_of es ++ references_from k rs
recent_both m k es rs le none =
    kept-append m (list_references_of es) (references_from k rs)
    ∙ ap (λ t. t ++ references_from m (references_from k rs)) (kept_refs m es none)
    ∙ ap (λ t. list_references_of es ++ t) (kept_after m k le rs)

-- the part of them that was taken in is not older than the horizon
pub none_taken : (m k : ℕ) (es new : List Entry) (rs : List Reference) → m ≤ k → NoneOlder m es
    → new ≡ list_history (list_references_of es ++ references_from k rs) → NoneOlder m new
none_taken m k es new rs le none is = none_in_history m new (list_references_of es ++ references_from k rs) (recent_both m k es rs le none) is

cut_twice : (m k : ℕ) (S rs : List Reference) → m ≤ k
    → references_from k (S ++ references_from m rs) ≡ references_from k (S ++ rs)
cut_twice m k S rs le =
    kept-append k S (references_from m rs)
    ∙ ap (λ t. references_from k S ++ t) (kept_within m k le rs)
    ∙ sym (kept-append k S rs)

same_view : (m k : ℕ) (es fs : List Entry) → m ≡ k → es ≡ fs
    → history_of_entries_at m es ≡ history_of_entries_at k fs
same_view m k es fs horizons entries = λ i. record { horizon = horizons i; entries = entries i }

-- the same entries, cut at a later time
pub raised_to : (a time k : ℕ) (es new : List Entry) → IsHistory (history_of_entries_at a es)
    → k ≡ max a time → new ≡ kept_entries k es
    → history_of_entries_at k new
    ≡ history (with_horizon time (references_of (history_of_entries_at a es)))
raised_to a time k es new whole later cut =
    same_view k (max a time) new _ later (
    cut
    ∙ ap (kept_entries k) (own_entries a es whole)
    ∙ history-kept k (list_references_of es)
    ∙ ap (λ t. list_history (references_from k t)) (sym (append-nil (list_references_of es)))
    ∙ ap (λ j. list_history (references_from j (list_references_of es ++ []))) later)
    ∙ sym (history-is (with_horizon time (references_of (history_of_entries_at a es))))

-- entries that took references in, none of them older than the horizon
pub absorbed_to : (a : ℕ) (es new : List Entry) (rs : List Reference)
    → IsHistory (history_of_entries_at a es)
    → new ≡ list_history (list_references_of es ++ references_from a rs)
    → history_of_entries_at a new
    ≡ history (references_of (history_of_entries_at a es) ∪ set_of_list rs)
absorbed_to a es new rs whole is =
    same_view a (max a 0) new _ (sym (max-zero a)) (
    is
    ∙ ap list_history (sym (recent_both a a es rs (le_refl a) whole.none_older) ∙ cut_twice a a (list_references_of es) rs (le_refl a))
    ∙ ap (λ j. list_history (references_from j (list_references_of es ++ rs))) (sym (max-zero a)))
    ∙ sym (history-is (references_of (history_of_entries_at a es) ∪ set_of_list rs))

-- entries that took references in, cut at the later of two horizons
pub joined_to : (a b m k : ℕ) (es mid new : List Entry) (rs : List Reference) → m ≡ max a b
    → k ≡ max a m → mid ≡ list_history (list_references_of es ++ references_from m rs)
    → new ≡ kept_entries k mid
    → history_of_entries_at k new
    ≡ history (references_of (history_of_entries_at a es) ∪ record { horizon = b; given = rs })
joined_to a b m k es mid new rs later latest is cut =
    let same : k ≡ max a b = omega arith in
    let le : m ≤ k = omega arith in
    same_view k (max a b) new _ same (
    cut
    ∙ ap (kept_entries k) is
    ∙ history-kept k (list_references_of es ++ references_from m rs)
    ∙ ap list_history (cut_twice m k (list_references_of es) rs le)
    ∙ ap (λ j. list_history (references_from j (list_references_of es ++ rs))) same)
    ∙ sym (history-is (references_of (history_of_entries_at a es) ∪ record { horizon = b; given = rs }))

-- the history of a set of references has nothing older than its horizon
pub none_of : (m : ℕ) (es : List Entry) (S : ReferenceSet) → history_of_entries_at m es ≡ history S
    → NoneOlder m es
none_of m es S is = let whole : IsHistory (history_of_entries_at m es) = subst IsHistory (sym is) (IsHistory-history S) in whole.none_older
