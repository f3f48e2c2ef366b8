-- What an entry more does to a history.
use Rattle.std.proofs.Common.{◌≡◌, Bool, true, false, cond, List, [], ◌++◌, sym, ap, refl, ◌∙◌, subst}
use Rattle.std.specs.Ordering.{is_eq, on}
use Rattle.std.proofs.lemmas.List.{append-nil}
use Rattle.warm_stamps.specs.declared.PageId.{PageId}
use Rattle.warm_stamps.specs.declared.Reference.{Reference}
use Rattle.warm_stamps.specs.Stamps.{page_cmp}
use Rattle.warm_stamps.specs.Distinct.{IsAscending}
use Rattle.warm_stamps.proofs.DistinctLemmas.{is_equal}
use Rattle.warm_stamps.proofs.StampLemmas.{page_order}
use Rattle.warm_maps.specs.declared.hist.Entry.{Entry}
use Rattle.warm_history.specs.ListHistories.{latest_of, list_hist, list_history, hist_stamps, known_stamps, references_of_entry, list_references_of, ListStandsFor, IsListHistory}
use Rattle.warm_history.proofs.ListHistoryLemmas.{get, told, told-append, told_entry, get-history, IsHistory-history, same_gets}
use Rattle.warm_history.proofs.ListJoinLemmas.{history_of_own_references}
use Rattle.warm_maps.proofs.LatestLemmas.{latest_of_first, latest_of_swap}

-- what is known of each page after an entry was added
pub hist_entry : (S : List Reference) (e : Entry) (q : PageId)
    → list_hist (S ++ references_of_entry e) q
    ≡ cond (is_eq (page_cmp e.page q))
    (latest_of (hist_stamps e.hist ++ known_stamps (list_hist S e.page))) (list_hist S q)
hist_entry S e q = ap latest_of (told-append S (references_of_entry e) q ∙ ap (λ t. told S q ++ t) (told_entry e.page e.hist q)) ∙ cases (is_eq (page_cmp e.page q)) refl
  where
    cases : (b : Bool) → is_eq (page_cmp e.page q) ≡ b
        → latest_of (told S q ++ cond (is_eq (page_cmp e.page q)) (hist_stamps e.hist) [])
        ≡ cond (is_eq (page_cmp e.page q))
        (latest_of (hist_stamps e.hist ++ known_stamps (list_hist S e.page))) (list_hist S q)
    cases true here =
        let same : e.page ≡ q = page_order.same e.page q (is_equal (page_cmp e.page q) here) in
        rw here (
        latest_of_first (told S q) (hist_stamps e.hist)
        ∙ latest_of_swap (known_stamps (list_hist S q)) (hist_stamps e.hist)
        ∙ ap (λ p. latest_of (hist_stamps e.hist ++ known_stamps (list_hist S p))) (sym same))
    cases false other = rw other (ap latest_of (append-nil (told S q)))

-- what new holds is what old holds, with an entry more
abbrev pub HoldsMore : List Entry → List Entry → Entry → Type 0
HoldsMore old new e = (q : PageId) → get new q ≡ cond (is_eq (page_cmp e.page q)) (latest_of (hist_stamps e.hist ++ known_stamps (get old e.page))) (get old q)

stands_for_more : (old new : List Entry) (e : Entry) → IsAscending (on (λ e. e.page) page_cmp) new
    → HoldsMore old new e → (S : List Reference) → ListStandsFor old S
    → ListStandsFor new (S ++ references_of_entry e)
stands_for_more old new e rising more S stands =
    let says : (q : PageId) → get old q ≡ list_hist S q = λ q. ap (λ h. get h q) stands ∙ get-history S q in
    let whole = IsHistory-history (S ++ references_of_entry e) in
    same_gets new (list_history (S ++ references_of_entry e)) rising whole.pages_ascend (λ q.
    more q
    ∙ ap (λ x. cond (is_eq (page_cmp e.page q)) (latest_of (hist_stamps e.hist ++ known_stamps x)) (get old q)) (says e.page)
    ∙ ap (cond (is_eq (page_cmp e.page q)) (latest_of (hist_stamps e.hist ++ known_stamps (list_hist S e.page)))) (says q)
    ∙ sym (hist_entry S e q)
    ∙ sym (get-history (S ++ references_of_entry e) q))

-- new is the history that old is, with an entry more
pub record TakesIn (old : List Entry) (e : Entry) (new : List Entry) : Type 0 where
  pub given : (S : List Reference) → ListStandsFor old S
      → ListStandsFor new (S ++ references_of_entry e)
  pub whole : IsListHistory new

pub takes_in : (old new : List Entry) (e : Entry) → IsListHistory old
    → IsAscending (on (λ e. e.page) page_cmp) new → HoldsMore old new e → TakesIn old e new
takes_in old new e whole rising more =
    let stands = stands_for_more old new e rising more in
    let is = stands (list_references_of old) (sym (history_of_own_references old whole)) in
    record { given = stands; whole = subst IsListHistory (sym is) (IsHistory-history (list_references_of old ++ references_of_entry e)) }
