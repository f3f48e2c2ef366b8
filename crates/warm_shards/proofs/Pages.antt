-- Which pages a history has, given those of its references.
use Rattle.std.proofs.Common.{◌≡◌, List, [], ◌∷◌, ◌++◌, map, Option, Some, None, refl}
use Rattle.std.specs.List.{AllByRecursion}
use Rattle.warm_stamps.specs.declared.Stamp.{Stamp}
use Rattle.warm_stamps.specs.declared.PageId.{PageId}
use Rattle.warm_stamps.specs.declared.Reference.{Reference}
use Rattle.warm_stamps.specs.Stamps.{page_cmp}
use Rattle.warm_stamps.proofs.DistinctLemmas.{all_append, all_filter, all_of_has, has_from_distinct}
use Rattle.warm_stamps.proofs.StampLemmas.{page_order}
use Rattle.warm_history.specs.Entry.{Entry}
use Rattle.warm_history.specs.PageHist.{PageHist}
use Rattle.warm_history.specs.ListHistories.{hist_stamps, list_references_of, references_of_entry}
use Rattle.warm_history.specs.ReferenceSets.{ReferenceSet, is_kept, references}
use Rattle.warm_history.specs.Histories.{entries_of, hist, history, pages}
use Rattle.warm_history.proofs.ListHistoryLemmas.{entries}
use Rattle.warm_rank.proofs.OutrankedLemmas.{all_has}

all_paged : (P : PageId → Type 0) (rs : List Reference) → AllByRecursion (λ r. P r.page) rs
    → AllByRecursion P (map (λ r. r.page) rs)
all_paged P [] all = tt
all_paged P (r ∷ rs) all = (all.0, all_paged P rs all.1)

-- what is true of the page of each reference is true of each page named
pub all_pages : (P : PageId → Type 0) (S : ReferenceSet) → AllByRecursion (λ r. P r.page) S.given
    → AllByRecursion P (pages S)
all_pages P S all =
    let named = map (λ (r : Reference). r.page) (references S) in
    all_of_has P (pages S) (λ p has. all_has P named p (all_paged P (references S) (all_filter (λ r. P r.page) (λ r. is_kept S.horizon r.stamp) S.given all)) (has_from_distinct page_cmp page_order named p has))

all_listed : (P : PageId → Type 0) (f : PageId → Option PageHist) (ps : List PageId)
    → AllByRecursion P ps → AllByRecursion (λ e. P e.page) (entries f ps)
all_listed P f [] all = tt
all_listed P f (p ∷ ps) all = cases (f p) refl (all_listed P f ps all.1)
  where
    cases : (x : Option PageHist) → f p ≡ x → AllByRecursion (λ e. P e.page) (entries f ps)
        → AllByRecursion (λ e. P e.page) (entries f (p ∷ ps))
    cases None is rest = rw is rest
    cases (Some h) is rest = rw is (all.0, rest)

-- and of the page of each entry
pub all_entries : (P : PageId → Type 0) (S : ReferenceSet)
    → AllByRecursion (λ r. P r.page) S.given → AllByRecursion (λ e. P e.page) (entries_of (history S))
unfolding history
all_entries P S all = all_listed P (hist S) (pages S) (all_pages P S all)

all_of_page : (P : PageId → Type 0) (p : PageId) (ss : List Stamp) → P p
    → AllByRecursion (λ (r : Reference). P r.page) (map (λ s. record { page = p; stamp = s }) ss)
all_of_page P p [] is = tt
all_of_page P p (s ∷ ss) is = (is, all_of_page P p ss is)

-- what is true of the page of each entry is true of the page of each reference held
pub all_held : (P : PageId → Type 0) (es : List Entry) → AllByRecursion (λ e. P e.page) es
    → AllByRecursion (λ r. P r.page) (list_references_of es)
all_held P [] all = tt
all_held P (e ∷ es) all =
    all_append (λ r. P r.page) (references_of_entry e) (list_references_of es) (all_of_page P e.page (hist_stamps e.hist) all.0) (all_held P es all.1)

-- a history that takes in references whose pages are so stays so
pub all_taken : (P : PageId → Type 0) (es : List Entry) (B : List Reference) (m : _)
    → AllByRecursion (λ e. P e.page) es → AllByRecursion (λ r. P r.page) B
    → AllByRecursion (λ e. P e.page) (entries_of (history (record { horizon = m; given = list_references_of es ++ B })))
all_taken P es B m all more =
    all_entries P (record { horizon = m; given = list_references_of es ++ B }) (all_append (λ r. P r.page) (list_references_of es) B (all_held P es all) more)
