-- What is taken of a history for a bucket is the history of what is carried.
use Rattle.std.proofs.Common.{◌≡◌, ℕ, zero, suc, Bool, true, false, ◌||◌, cond, is_some, List, [], ◌∷◌, take, filter, map, sym, ap, refl, ◌∙◌, Option, Some, None}
use Rattle.std.specs.List.{cons_option, list_any, AllByRecursion}
use Rattle.std.specs.Option.{option_map}
use Rattle.std.specs.Ordering.{is_eq, flip_args}
use Rattle.warm_stamps.specs.declared.PageId.{PageId}
use Rattle.warm_stamps.specs.declared.Reference.{Reference}
use Rattle.warm_stamps.specs.Stamps.{stamp_cmp, page_cmp}
use Rattle.warm_stamps.specs.Distinct.{distinct, IsAscending}
use Rattle.warm_stamps.proofs.DistinctLemmas.{is_equal, distinct_rises, rising_filter, rising_take, all_filter, all_of_has}
use Rattle.warm_stamps.proofs.StampLemmas.{page_order}
use Rattle.warm_maps.specs.declared.hist.PageHist.{PageHist}
use Rattle.warm_maps.specs.declared.hist.Entry.{Entry}
use Rattle.warm_history.specs.ListHistories.{list_references_to, first_two, list_hist, list_pages, list_history}
use Rattle.warm_history.specs.Carried.{is_next_in_bucket}
use Rattle.warm_history.proofs.ListHistoryLemmas.{named, entries, get_entries, rising_entries, has_named, named-some, named-distinct, get-history, IsHistory-history, same_gets}

-- ---- entries of chosen pages

pub filter-entries : (f : PageId → Option PageHist) (test : PageId → Bool) (ps : List PageId)
    → filter (λ e. test e.page) (entries f ps) ≡ entries f (filter test ps)
filter-entries f test [] = refl
filter-entries f test (q ∷ qs) = cases (f q) (test q) refl (filter-entries f test qs) ∙ sym (apart (test q))
  where
    apart : (t : Bool) → entries f (cond t (q ∷ filter test qs) (filter test qs))
        ≡ cond t (cons_option (option_map (λ h. record { page = q; hist = h }) (f q))
        (entries f (filter test qs))) (entries f (filter test qs))
    apart true = refl
    apart false = refl

    cases : (x : Option PageHist) (t : Bool) → test q ≡ t
        → filter (λ e. test e.page) (entries f qs) ≡ entries f (filter test qs)
        → filter (λ (e : Entry). test e.page)
        (cons_option (option_map (λ h. record { page = q; hist = h }) x) (entries f qs))
        ≡ cond t (cons_option (option_map (λ h. record { page = q; hist = h }) x)
        (entries f (filter test qs))) (entries f (filter test qs))
    cases None true is rest = rest
    cases None false is rest = rest
    cases (Some h) true is rest = rw is (ap (λ t. record { page = q; hist = h } ∷ t) rest)
    cases (Some h) false is rest = rw is rest

pub take-entries : (f : PageId → Option PageHist) (n : ℕ) (ps : List PageId)
    → AllByRecursion (λ p. is_some (f p) ≡ true) ps → take n (entries f ps) ≡ entries f (take n ps)
take-entries f zero ps all = refl
take-entries f (suc n) [] all = refl
take-entries f (suc n) (q ∷ qs) all = cases (f q) all.0 (take-entries f n qs all.1)
  where
    cases : (x : Option PageHist) → is_some x ≡ true → take n (entries f qs) ≡ entries f (take n qs)
        → take (suc n) (cons_option (option_map (λ h. record { page = q; hist = h }) x)
        (entries f qs)) ≡ cons_option (option_map (λ h. record { page = q; hist = h }) x)
        (entries f (take n qs))
    cases None is rest = let no : false ≡ true = is in absurd (cc)
    cases (Some h) is rest = ap (λ t. record { page = q; hist = h } ∷ t) rest

-- of each page that it names, a list says something
pub all_said : (S : List Reference)
    → AllByRecursion (λ p. is_some (list_hist S p) ≡ true) (list_pages S)
all_said S = all_of_has (λ p. is_some (list_hist S p) ≡ true) (list_pages S) (λ p has.
    sym (named-some S p) ∙ sym (named-distinct (map (λ (r : Reference). r.page) S) p) ∙ has_named (list_pages S) p has)

-- ---- the references to chosen pages

-- whether the pages contain the page, as the definition tests it
any-named : (ps : List PageId) (p : PageId) → list_any (λ q. is_eq (page_cmp q p)) ps ≡ named ps p
any-named [] p = refl
any-named (q ∷ qs) p = rw (any-named qs p) (elim (is_eq (page_cmp q p)) as (λ b. (b || named qs p) ≡ cond b true (named qs p)) [ true ↦ refl | false ↦ refl ])

-- the references of S to the pages ps
abbrev pub among : List Reference → List PageId → List Reference
among S ps = filter (λ r. list_any (λ p. is_eq (page_cmp p r.page)) ps) S

nothing : (b : Bool) (none : List Reference) → none ≡ [] → none ≡ cond b none []
nothing true none is = refl
nothing false none is = is

references_to-among : (S : List Reference) (ps : List PageId) (p : PageId)
    → list_references_to (among S ps) p ≡ cond (named ps p) (list_references_to S p) []
references_to-among [] ps p = nothing (named ps p) [] refl
references_to-among (r ∷ S) ps p = cases (list_any (λ q. is_eq (page_cmp q r.page)) ps) refl (is_eq (page_cmp r.page p)) refl (references_to-among S ps p)
  where
    cases : (t : Bool) → list_any (λ q. is_eq (page_cmp q r.page)) ps ≡ t → (b : Bool)
        → is_eq (page_cmp r.page p) ≡ b
        → list_references_to (among S ps) p ≡ cond (named ps p) (list_references_to S p) []
        → list_references_to (cond (list_any (λ q. is_eq (page_cmp q r.page)) ps) (r ∷ among S ps)
        (among S ps)) p ≡ cond (named ps p)
        (cond (is_eq (page_cmp r.page p)) (r ∷ list_references_to S p) (list_references_to S p)) []
    cases true is true here rest =
        let same : r.page ≡ p = page_order.same r.page p (is_equal (page_cmp r.page p) here) in
        let there : named ps p ≡ true = ap (named ps) (sym same) ∙ sym (any-named ps r.page) ∙ is in
        rw (is, here) (rw there (ap (λ t. r ∷ t) (rest ∙ rw there refl)))
    cases true is false other rest = rw (is, other) rest
    cases false is true here rest =
        let same : r.page ≡ p = page_order.same r.page p (is_equal (page_cmp r.page p) here) in
        let away : named ps p ≡ false = ap (named ps) (sym same) ∙ sym (any-named ps r.page) ∙ is in
        rw is (rest ∙ rw away refl)
    cases false is false other rest = rw (is, other) rest

hist-among : (S : List Reference) (ps : List PageId) (p : PageId)
    → list_hist (among S ps) p ≡ cond (named ps p) (list_hist S p) None
hist-among S ps p =
    ap (λ rs. first_two (distinct (flip_args stamp_cmp) (map (λ (r : Reference). r.stamp) rs))) (references_to-among S ps p)
    ∙ elim (named ps p) as (λ b. first_two (distinct (flip_args stamp_cmp) (map (λ (r : Reference). r.stamp) (cond b (list_references_to S p) []))) ≡ cond b (list_hist S p) None) [ true ↦ refl | false ↦ refl ]

-- the history of the references to rising pages has an entry for each of these pages
pub history-among : (S : List Reference) (ps : List PageId) → IsAscending page_cmp ps
    → list_history (among S ps) ≡ entries (list_hist S) ps
history-among S ps rising =
    let whole = IsHistory-history (among S ps) in
    same_gets (list_history (among S ps)) (entries (list_hist S) ps) whole.pages_ascend (rising_entries (list_hist S) ps rising) (λ p.
    get-history (among S ps) p ∙ hist-among S ps p ∙ sym (get_entries (list_hist S) ps p))

-- the first pages of S that are in the bucket and after the page
abbrev pub pages_carried : List Reference → ℕ → Option PageId → ℕ → List PageId
pages_carried S bucket after limit = take limit (filter (is_next_in_bucket bucket after) (list_pages S))

-- the first entries of a history that are in the bucket and after the page are the history of what
-- is carried
pub history-carried : (S : List Reference) (bucket : ℕ) (after : Option PageId) (limit : ℕ)
    → take limit (filter (λ e. is_next_in_bucket bucket after e.page) (list_history S))
    ≡ list_history (among S (pages_carried S bucket after limit))
unfolding list_history
history-carried S bucket after limit =
    let chosen = is_next_in_bucket bucket after in
    ap (take limit) (filter-entries (list_hist S) chosen (list_pages S))
    ∙ take-entries (list_hist S) limit (filter chosen (list_pages S)) (all_filter (λ p. is_some (list_hist S p) ≡ true) chosen (list_pages S) (all_said S))
    ∙ sym (history-among S (pages_carried S bucket after limit)
    (rising_take page_cmp limit (filter chosen (list_pages S)) (rising_filter page_cmp chosen (list_pages S) (distinct_rises page_cmp page_order (map (λ (r : Reference). r.page) S)))))
