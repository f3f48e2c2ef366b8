-- The laws of histories and of their join.
use Rattle.std.proofs.Common.{◌≡◌, refl, List, ◌++◌, sym, ap, ◌∙◌}
use Rattle.std.specs.Ordering.{flip_args}
use Rattle.warm_stamps.specs.declared.PageId.{PageId}
use Rattle.warm_stamps.specs.declared.Reference.{Reference}
use Rattle.warm_stamps.specs.Distinct.{distinct}
use Rattle.warm_stamps.specs.Stamps.{stamp_cmp}
use Rattle.warm_stamps.proofs.DistinctLemmas.{distinct_absorbs}
use Rattle.warm_stamps.proofs.StampLemmas.{stamp_order, IsStrictOrder-flip}
use Rattle.warm_history.specs.ListHistories.{list_history, list_hist, first_two, list_references_of, list_join, IsListHistory}
use Rattle.warm_maps.specs.declared.hist.Entry.{Entry}
use Rattle.warm_history.proofs.ListHistoryLemmas.{told, told-append, same_gets, same_hists, joined, hist-append, hist_swap, hist-refs, hist_refs-history, get-history, IsHistory-history}

-- what a list says of each page decides what it says beside another list
pub history_alike : (S S' T T' : List Reference) → ((p : _) → list_hist S p ≡ list_hist S' p)
    → ((p : _) → list_hist T p ≡ list_hist T' p) → list_history (S ++ T) ≡ list_history (S' ++ T')
history_alike S S' T T' first second = same_hists (S ++ T) (S' ++ T') (λ p.
    hist-append S T p ∙ ap (λ x. joined x (list_hist T p)) (first p) ∙ ap (joined (list_hist S' p)) (second p) ∙ sym (hist-append S' T' p))

pub history_of_union : (S T : List Reference)
    → list_history (list_references_of (list_history S) ++ list_references_of (list_history T))
    ≡ list_history (S ++ T)
history_of_union S T = history_alike (list_references_of (list_history S)) S (list_references_of (list_history T)) T (hist_refs-history S) (hist_refs-history T)

-- a history in place of the first list, or of the second, says the same
pub history_first : (S T : List Reference)
    → list_history (list_references_of (list_history S) ++ T) ≡ list_history (S ++ T)
history_first S T = history_alike (list_references_of (list_history S)) S T T (hist_refs-history S) (λ p. refl)

pub history_second : (S T : List Reference)
    → list_history (S ++ list_references_of (list_history T)) ≡ list_history (S ++ T)
history_second S T = history_alike S S (list_references_of (list_history T)) T (λ p. refl) (hist_refs-history T)

pub history_of_own_references : (h : List Entry) → IsListHistory h
    → list_history (list_references_of h) ≡ h
history_of_own_references h whole =
    let own = IsHistory-history (list_references_of h) in
    same_gets (list_history (list_references_of h)) h own.pages_ascend whole.pages_ascend (λ p. get-history (list_references_of h) p ∙ hist-refs h whole p)

pub history_swap : (S T : List Reference) → list_history (S ++ T) ≡ list_history (T ++ S)
history_swap S T = same_hists (S ++ T) (T ++ S) (hist_swap S T)

pub join_commutes : (h g : List Entry) → list_join h g ≡ list_join g h
join_commutes h g = history_swap (list_references_of h) (list_references_of g)

-- a list said twice says what it says once
pub hist_repeat : (S : List Reference) (p : PageId) → list_hist (S ++ S) p ≡ list_hist S p
hist_repeat S p =
    let falls = flip_args stamp_cmp in
    ap (λ ss. first_two (distinct falls ss)) (told-append S S p)
    ∙ ap first_two (distinct_absorbs falls (IsStrictOrder-flip stamp_cmp stamp_order) (told S p) (told S p) (λ s has. has))
