-- The history of valid references has valid entries: for the crates above.
use Rattle.std.proofs.Common.{List, [], ◌∷◌, map, Option, Some, None}
use Rattle.std.specs.List.{AllByRecursion, cons_option}
use Rattle.std.specs.Option.{option_map}
use Rattle.std.specs.Ordering.{is_eq, flip_args}
use Rattle.std.specs.declared.cmp.Ordering.{Ordering}
use Rattle.warm_stamps.specs.declared.PageId.{PageId}
use Rattle.warm_stamps.specs.declared.Stamp.{Stamp}
use Rattle.warm_stamps.specs.declared.Reference.{Reference}
use Rattle.warm_stamps.specs.Bytes.{IsPage, IsStamp}
use Rattle.warm_stamps.specs.Stamps.{stamp_cmp, page_cmp}
use Rattle.warm_stamps.specs.Distinct.{insert_distinct, distinct, IsAscending}
use Rattle.warm_stamps.proofs.DistinctLemmas.{by_cases, all_append, all_filter, distinct_rises}
use Rattle.warm_stamps.proofs.StampLemmas.{stamp_order, IsStrictOrder-flip}
use Rattle.warm_history.specs.PageHist.{PageHist}
use Rattle.warm_history.specs.PageHist.TheVariants.{Once, Twice}
use Rattle.warm_history.specs.Entry.{Entry}
use Rattle.warm_history.specs.ListHistories.{references_of_entry}
use Rattle.warm_history.specs.ReferenceSets.{ReferenceSet, references}
use Rattle.warm_history.specs.Histories.{references_of_entries, references_to, stamps, first_two, hist, pages, history}
use Rattle.warm_history.proofs.ListHistoryLemmas.{entries}
use Rattle.warm_frames.specs.Entries.{IsEntry, IsHist}
use Rattle.warm_digest.specs.Exchange.{IsReference, AreReferences, Fits}

-- ---- the history of valid references

pub all_insert : {A : Type 0} (P : A → Type 0) (cmp : A → A → Ordering) (x : A) (ys : List A) → P x
    → AllByRecursion P ys → AllByRecursion P (insert_distinct cmp x ys)
all_insert P cmp x [] own all = (own, tt)
all_insert P cmp x (y ∷ ys) own all = by_cases (cmp x y) _
    (λ less. rw less (own, all))
    (λ tied. rw tied all)
    (λ more. rw more (all.0, all_insert P cmp x ys own all.1))

pub all_distinct : {A : Type 0} (P : A → Type 0) (cmp : A → A → Ordering) (xs : List A)
    → AllByRecursion P xs → AllByRecursion P (distinct cmp xs)
all_distinct P cmp [] all = tt
all_distinct P cmp (x ∷ xs) all = all_insert P cmp x (distinct cmp xs) all.0 (all_distinct P cmp xs all.1)

pub all_mapped : {A B : Type 0} (P : A → Type 0) (Q : B → Type 0) (f : A → B) (xs : List A)
    → ((x : A) → P x → Q (f x)) → AllByRecursion P xs → AllByRecursion Q (map f xs)
all_mapped P Q f [] each all = tt
all_mapped P Q f (x ∷ xs) each all = (each x all.0, all_mapped P Q f xs each all.1)

-- the stamps of a page's history, if it has one, are valid
abbrev FitsIfAny : Option PageHist → Type 0
FitsIfAny None = Unit {0}
FitsIfAny (Some h) = IsHist h

first_two_fit : (ss : List Stamp) → IsAscending (flip_args stamp_cmp) ss → AllByRecursion IsStamp ss
    → FitsIfAny (first_two ss)
first_two_fit [] falls all = tt
first_two_fit (a ∷ []) falls all = all.0
first_two_fit (a ∷ b ∷ ss) falls all = (all.0, all.1.0, falls.0.0)

hist_fits : (S : ReferenceSet) (p : PageId) → AreReferences (references S) → FitsIfAny (hist S p)
hist_fits S p all =
    let falls = flip_args stamp_cmp in
    let listed = map (λ (r : Reference). r.stamp) (references_to S p) in
    first_two_fit (stamps S p) (distinct_rises falls (IsStrictOrder-flip stamp_cmp stamp_order) listed)
    (all_distinct IsStamp falls listed (all_mapped IsReference IsStamp (λ r. r.stamp) (references_to S p) (λ r own. own.stamp) (all_filter IsReference (λ r. is_eq (page_cmp r.page p)) (references S) all)))

entries_fit : (f : PageId → Option PageHist) (ps : List PageId) → ((p : PageId) → FitsIfAny (f p))
    → AllByRecursion IsPage ps → AllByRecursion IsEntry (entries f ps)
entries_fit f [] each all = tt
entries_fit f (p ∷ ps) each all = elim (f p) as (λ x. FitsIfAny x → AllByRecursion IsEntry (cons_option (option_map (λ h. record { page = p; hist = h }) x) (entries f ps))) [
  | None ↦ λ fit. entries_fit f ps each all.1
  | Some h ↦ λ fit. (record { page = all.0; hist = fit }, entries_fit f ps each all.1)
] (each p)

pub history_fits : (S : ReferenceSet) → AreReferences (references S) → Fits (history S)
unfolding history
history_fits S all = entries_fit (hist S) (pages S) (λ p. hist_fits S p all) (all_distinct IsPage page_cmp (map (λ (r : Reference). r.page) (references S)) (all_mapped IsReference IsPage (λ r. r.page) (references S) (λ r own. own.page) all))

-- ---- the references of valid entries

entry_held : (page : PageId) (h : PageHist) → IsPage page → IsHist h
    → AreReferences (references_of_entry (record { page = page; hist = h }))
entry_held page (Once last) own is = (record { page = own; stamp = is }, tt)
entry_held page (Twice two) own is = (record { page = own; stamp = is.0 }, (record { page = own; stamp = is.1 }, tt))

pub references_fit : (es : List Entry) → AllByRecursion IsEntry es
    → AreReferences (references_of_entries es)
references_fit [] all = tt
references_fit (e ∷ es) all = all_append IsReference (references_of_entry e) (references_of_entries es) (entry_held e.page e.hist all.0.page all.0.hist) (references_fit es all.1)
