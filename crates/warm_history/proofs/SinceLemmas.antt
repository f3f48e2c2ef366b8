-- What is taken of a bucket since a time is the history of what is carried since then.
use Rattle.std.proofs.Common.{◌≡◌, ℕ, ◌<◌, ◌≤◌, Bool, true, false, is_some, List, [], ◌∷◌, ◌++◌, length, take, drop, filter, map, sym, ap, refl, ◌∙◌, Option, Some, None, append_assoc, append-nil, arith, IsTrue}
use Rattle.std.specs.Prelude.{◌↔◌}
use Rattle.std.specs.List.{list_any}
use Rattle.std.specs.Ordering.{is_eq}
use Rattle.std.proofs.lemmas.List.{length-drop, take_at, drop_at, take_all, drop_all}
use Rattle.warm_stamps.specs.declared.PageId.{PageId}
use Rattle.warm_stamps.specs.declared.Reference.{Reference}
use Rattle.warm_stamps.specs.Stamps.{page_cmp}
use Rattle.warm_stamps.proofs.DistinctLemmas.{distinct_rises, rising_filter, rising_take, all_filter}
use Rattle.warm_stamps.proofs.StampLemmas.{page_order}
use Rattle.warm_maps.specs.declared.hist.PageHist.{PageHist}
use Rattle.warm_maps.specs.declared.hist.Entry.{Entry}
use Rattle.warm_history.specs.Carried.{is_next_in_bucket}
use Rattle.warm_history.specs.Histories.{entries_of, history}
use Rattle.warm_history.specs.KeptEntries.{is_recent}
use Rattle.warm_history.specs.ListHistories.{list_hist, list_pages, list_history}
use Rattle.warm_history.specs.ReferenceSets.{ReferenceSet, references}
use Rattle.warm_history.specs.Since.{is_since, pages_since, carried_since, recent_entries, entries_since}
use Rattle.warm_history.proofs.CarriedLemmas.{references-those}
use Rattle.warm_history.proofs.HistoryLemmas.{entries-history}
use Rattle.warm_history.proofs.ListCarriedLemmas.{all_said, among, filter-entries, history-among, take-entries}
use Rattle.warm_history.proofs.ListHistoryLemmas.{entries}

-- of entries made page by page, the recent ones are those of the pages that are recent
recent-entries : (f : PageId → Option PageHist) (since : ℕ) (ps : List PageId)
    → recent_entries since (entries f ps) ≡ entries f (filter (λ p. is_since since (f p)) ps)
recent-entries f since [] = refl
recent-entries f since (q ∷ qs) = cases (f q) refl (recent-entries f since qs)
  where
    some : (h : PageHist) → f q ≡ Some h → (b : Bool) → is_recent since h ≡ b
        → recent_entries since (entries f qs) ≡ entries f (filter (λ p. is_since since (f p)) qs)
        → recent_entries since (entries f (q ∷ qs))
        ≡ entries f (filter (λ p. is_since since (f p)) (q ∷ qs))
    some h is true recent rest = rw is (rw recent (rw is (ap (λ t. record { page = q; hist = h } ∷ t) rest)))
    some h is false old rest = rw is (rw old rest)

    cases : (x : Option PageHist) → f q ≡ x
        → recent_entries since (entries f qs) ≡ entries f (filter (λ p. is_since since (f p)) qs)
        → recent_entries since (entries f (q ∷ qs))
        ≡ entries f (filter (λ p. is_since since (f p)) (q ∷ qs))
    cases None is rest = rw is rest
    cases (Some h) is rest = some h is (is_recent since h) refl rest

-- the same of the history of a list
list-since : (S : List Reference) (bucket since : ℕ) (after : Option PageId) (limit : ℕ)
    → take limit (entries_since bucket since after (list_history S))
    ≡ list_history (among S (take limit (filter (λ p. is_since since (list_hist S p))
    (filter (is_next_in_bucket bucket after) (list_pages S)))))
unfolding list_history
list-since S bucket since after limit =
    let next = is_next_in_bucket bucket after in
    let recent : PageId → Bool = λ p. is_since since (list_hist S p) in
    let chosen = filter recent (filter next (list_pages S)) in
    ap (λ es. take limit (recent_entries since es)) (filter-entries (list_hist S) next (list_pages S))
    ∙ ap (take limit) (recent-entries (list_hist S) since (filter next (list_pages S)))
    ∙ take-entries (list_hist S) limit chosen (all_filter (λ p. is_some (list_hist S p) ≡ true) recent (filter next (list_pages S)) (all_filter (λ p. is_some (list_hist S p) ≡ true) next (list_pages S) (all_said S)))
    ∙ sym (history-among S (take limit chosen) (rising_take page_cmp limit chosen
    (rising_filter page_cmp recent (filter next (list_pages S)) (rising_filter page_cmp next (list_pages S) (distinct_rises page_cmp page_order (map (λ (r : Reference). r.page) S))))))

-- the first entries of a history that a bucket has since a time after the page are the entries of
-- the history of what is carried since then
pub history-since : (S : ReferenceSet) (bucket since : ℕ) (after : Option PageId) (limit : ℕ)
    → take limit (entries_since bucket since after (entries_of (history S)))
    ≡ entries_of (history (carried_since S bucket since after limit))
history-since S bucket since after limit =
    let test : Reference → Bool = λ r. list_any (λ p. is_eq (page_cmp p r.page)) (take limit (pages_since S bucket since after)) in
    ap (λ es. take limit (entries_since bucket since after es)) (entries-history S)
    ∙ list-since (references S) bucket since after limit
    ∙ ap list_history (sym (references-those test S))
    ∙ sym (entries-history (carried_since S bucket since after limit))

-- ---- a portion, entry by entry

-- one entry more is taken
pub taken_more : (taken ahead left all : List Entry) (e : Entry) → taken ++ ahead ≡ all
    → ahead ≡ e ∷ left → (taken ++ e ∷ []) ++ left ≡ all
taken_more taken ahead left all e is first = append_assoc taken (e ∷ []) left ∙ ap (λ (l : List Entry). taken ++ l) (sym first) ∙ is

-- as many are taken as are wanted
pub taken_enough : (n : ℕ) (taken ahead all : List Entry) → taken ++ ahead ≡ all → length taken ≡ n
    → (taken ≡ take n all) × (ahead ≡ drop n all)
taken_enough n taken ahead all is len = (sym (ap (take n) (sym is) ∙ take_at taken ahead n len), sym (ap (drop n) (sym is) ∙ drop_at taken ahead n len))

-- all are taken
pub taken_all : (n : ℕ) (taken ahead left all : List Entry) → taken ++ ahead ≡ all → ahead ≡ []
    → left ≡ [] → length taken ≤ n → (taken ≡ take n all) × (left ≡ drop n all)
taken_all n taken ahead left all is none over few =
    let whole : taken ≡ all = sym (append-nil taken) ∙ ap (λ (l : List Entry). taken ++ l) (sym none) ∙ is in
    (sym (ap (take n) (sym whole) ∙ take_all n taken few), over ∙ sym (ap (drop n) (sym whole) ∙ drop_all n taken few))

-- some are left if there are more than are wanted
pub left_more : (n : ℕ) (all left : List Entry) (b : Bool) → (IsTrue b ↔ 0 < length left)
    → left ≡ drop n all → IsTrue b ↔ n < length all
left_more n all left b is rest =
    let count : length left ≡ length (drop n all) = ap (λ (l : List Entry). length l) rest in
    (λ more. let some : 0 < length left = is.0 more in omega (arith, length-drop n all, count, some), λ lt. is.1 (omega (arith, length-drop n all, count, lt)))
