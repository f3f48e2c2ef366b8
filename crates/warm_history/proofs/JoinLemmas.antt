-- The laws of histories and of their join.
use Rattle.std.proofs.Common.{◌≡◌, ◌≤◌, ℕ, arith, List, ◌++◌, max, refl, sym, ap, ◌∙◌, append_assoc}
use Rattle.std.proofs.lemmas.List.{append-nil}
use Rattle.std.proofs.Math.Nat.{max_comm, le_refl, max-eq_left}
use Rattle.warm_stamps.specs.declared.PageId.{PageId}
use Rattle.warm_history.specs.ReferenceSets.{ReferenceSet, references_from, references, with_horizon, ◌∪◌}
use Rattle.warm_history.specs.ListHistories.{list_history, list_references_of, list_hist}
use Rattle.warm_maps.specs.declared.hist.Entry.{Entry}
use Rattle.warm_history.specs.Histories.{HistoryView, IsHistory, entries_of, history, hist, references_of}
use Rattle.warm_history.specs.Laws.{HistoryOfUnion, HistoryOfOwnReferences, JoinCommutes, JoinAssociates, JoinRepeats, JoinIsLeast, TakingInMovesUp}
use Rattle.warm_history.proofs.KeptLemmas.{kept_alike}
use Rattle.warm_history.proofs.ListHistoryLemmas as of_list
use Rattle.warm_history.proofs.ListJoinLemmas as join_list
use Rattle.warm_history.proofs.HistoryLemmas.{view, history-is, horizon-history, references-refs, same_hists, both_alike, hist_refs-history}

-- what a set says of each page, and its horizon, decide what it says beside another
pub history_alike : (S S' T T' : ReferenceSet) → S.horizon ≡ S'.horizon → T.horizon ≡ T'.horizon
    → ((p : _) → hist S p ≡ hist S' p) → ((p : _) → hist T p ≡ hist T' p)
    → history (S ∪ T) ≡ history (S' ∪ T')
history_alike S S' T T' horizon horizon' first second =
    same_hists (S ∪ T) (S' ∪ T') (λ i. max (horizon i) (horizon' i)) (both_alike S S' T T' horizon horizon' first second)

pub history_of_union : HistoryOfUnion
history_of_union S T = history_alike (references_of (history S)) S (references_of (history T)) T (horizon-history S) (horizon-history T) (hist_refs-history S) (hist_refs-history T)

-- a history in place of the first set, or of the second, says the same
pub history_first : (S T : ReferenceSet) → history (references_of (history S) ∪ T) ≡ history (S ∪ T)
history_first S T = history_alike (references_of (history S)) S T T (horizon-history S) refl (hist_refs-history S) (λ p. refl)

pub history_second : (S T : ReferenceSet)
    → history (S ∪ references_of (history T)) ≡ history (S ∪ T)
history_second S T = history_alike S S (references_of (history T)) T refl (horizon-history T) (λ p. refl) (hist_refs-history T)

pub history_of_own_references : HistoryOfOwnReferences
history_of_own_references h whole =
    let entries : list_history (references (references_of h)) ≡ h.entries = ap list_history (references-refs h whole) ∙ join_list.history_of_own_references h.entries (record { pages_ascend = whole.pages_ascend; stamps_descend = whole.stamps_descend }) in
    let same : view h.horizon (references (references_of h)) ≡ h = λ i. record { horizon = h.horizon; entries = entries i } in
    history-is (references_of h) ∙ same

-- a history raised to no later time is itself
pub raised_to_no_later : (h : HistoryView) (time : ℕ) → IsHistory h → time ≤ h.horizon
    → history (with_horizon time (references_of h)) ≡ h
raised_to_no_later h time whole le =
    let same : with_horizon time (references_of h) ≡ references_of h = λ i. record { horizon = max-eq_left le i; given = append-nil (list_references_of h.entries) i } in
    ap history same ∙ history_of_own_references h whole

hist_both_swap : (S T : ReferenceSet) (p : PageId) → hist (S ∪ T) p ≡ hist (T ∪ S) p
hist_both_swap S T p =
    kept_alike (max S.horizon T.horizon) (S.given ++ T.given) (T.given ++ S.given) (of_list.hist_swap S.given T.given) p
    ∙ ap (λ m. list_hist (references_from m (T.given ++ S.given)) p) (max_comm S.horizon T.horizon)

pub history_swap : (S T : ReferenceSet) → history (S ∪ T) ≡ history (T ∪ S)
history_swap S T = same_hists (S ∪ T) (T ∪ S) (max_comm S.horizon T.horizon) (hist_both_swap S T)

max_assoc : (a b c : ℕ) → max (max a b) c ≡ max a (max b c)
max_assoc a b c = omega arith

-- the sets themselves associate
pub both_assoc : (S T U : ReferenceSet) → (S ∪ T) ∪ U ≡ S ∪ (T ∪ U)
both_assoc S T U = λ i. record { horizon = max_assoc S.horizon T.horizon U.horizon i; given = append_assoc S.given T.given U.given i }

pub join_commutes : JoinCommutes
join_commutes h g = history_swap (references_of h) (references_of g)

pub join_associates : JoinAssociates
join_associates h g k =
    history_first (references_of h ∪ references_of g) (references_of k)
    ∙ ap history (both_assoc (references_of h) (references_of g) (references_of k))
    ∙ sym (history_second (references_of h) (references_of g ∪ references_of k))

max_same : (a : ℕ) → max a a ≡ a
max_same a = max-eq_left (le_refl a)

-- a set said twice says what it says once
pub hist_repeat : (S : ReferenceSet) (p : PageId) → hist (S ∪ S) p ≡ hist S p
hist_repeat S p =
    ap (λ m. list_hist (references_from m (S.given ++ S.given)) p) (max_same S.horizon)
    ∙ kept_alike S.horizon (S.given ++ S.given) S.given (join_list.hist_repeat S.given) p

pub join_repeats : JoinRepeats
join_repeats h whole = same_hists (references_of h ∪ references_of h) (references_of h) (max_same h.horizon) (hist_repeat (references_of h)) ∙ history_of_own_references h whole

pub taking_in_moves_up : TakingInMovesUp
taking_in_moves_up h B =
    history_second (references_of h) (references_of h ∪ B)
    ∙ ap history (sym (both_assoc (references_of h) (references_of h) B))
    ∙ history_alike (references_of h ∪ references_of h) (references_of h) B B (max_same h.horizon) refl (hist_repeat (references_of h)) (λ p. refl)

pub join_is_least : JoinIsLeast
join_is_least h g = record {
  first = taking_in_moves_up h (references_of g);
  second =
      history_second (references_of g) (references_of h ∪ references_of g)
      ∙ history_swap (references_of g) (references_of h ∪ references_of g)
      ∙ ap history (both_assoc (references_of h) (references_of g) (references_of g))
      ∙ history_alike (references_of h) (references_of h) (references_of g ∪ references_of g) (references_of g) refl (max_same g.horizon) (λ p. refl) (hist_repeat (references_of g));
  least = λ k h_below g_below.
      history_first (references_of h ∪ references_of g) (references_of k)
      ∙ ap history (both_assoc (references_of h) (references_of g) (references_of k))
      ∙ sym (history_second (references_of h) (references_of g ∪ references_of k))
      ∙ ap (λ j. history (references_of h ∪ references_of j)) g_below
      ∙ h_below;
}

-- what is brought with its horizon, page history by page history, says what the references would
pub history_received : (S T : ReferenceSet) (m : ℕ) (es : List Entry) → m ≡ T.horizon
    → es ≡ entries_of (history T)
    → history (S ∪ references_of (record { horizon = m; entries = es })) ≡ history (S ∪ T)
history_received S T m es horizon entries =
    let horizons : m ≡ (history T).horizon = horizon ∙ sym (horizon-history T) in
    let same : history (S ∪ references_of (record { horizon = m; entries = es })) ≡ history (S ∪ references_of (history T)) = λ i. history (S ∪ references_of (record { horizon = horizons i; entries = entries i })) in
    same ∙ history_second S T
