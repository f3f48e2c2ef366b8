-- The history of a list of references, without a horizon: the definitions of `Histories` build on
-- these.
use Rattle.std.specs.Prelude.{◌≡◌, List, [], ◌∷◌, ◌++◌, map, filter, Option}
use Rattle.std.specs.List.{AllByRecursion, filter_map}
use Rattle.std.specs.Option.{option_map}
use Rattle.std.specs.Ordering.{is_eq, on, flip_args}
use Rattle.warm_stamps.specs.declared.Stamp.{Stamp}
use Rattle.warm_stamps.specs.declared.PageId.{PageId}
use Rattle.warm_stamps.specs.declared.Reference.{Reference}
use Rattle.warm_stamps.specs.Stamps.{stamp_cmp, page_cmp}
use Rattle.warm_stamps.specs.Distinct.{distinct, IsAscending}
use Rattle.warm_maps.specs.declared.hist.PageHist.{PageHist}
use Rattle.warm_maps.specs.declared.hist.Entry.{Entry}
pub use Rattle.warm_maps.specs.PageHists.{first_two, latest_of, hist_stamps, known_stamps}
pub use Rattle.warm_maps.specs.PageHists.{IsDescending}

-- the references of S to the page p
abbrev pub list_references_to : List Reference → PageId → List Reference
list_references_to S p = filter (λ r. is_eq (page_cmp r.page p)) S

-- the distinct stamps of the page p in S, greatest first
abbrev pub list_stamps : List Reference → PageId → List Stamp
list_stamps S p = distinct (flip_args stamp_cmp) (map (λ r. r.stamp) (list_references_to S p))

-- the two latest stamps of the page p in S
abbrev pub list_hist : List Reference → PageId → Option PageHist
list_hist S p = first_two (list_stamps S p)

-- the pages named in S, rising
abbrev pub list_pages : List Reference → List PageId
list_pages S = distinct page_cmp (map (λ r. r.page) S)

-- the page p with its two latest stamps, if S names it
abbrev pub list_entry_of : List Reference → PageId → Option Entry
list_entry_of S p = option_map (λ h. record { page = p; hist = h }) (list_hist S p)

-- the two latest stamps of each page named in S, in rising page order
unfoldable pub list_history : List Reference → List Entry
list_history S = filter_map (list_entry_of S) (list_pages S)

-- the references that an entry holds
abbrev pub references_of_entry : Entry → List Reference
references_of_entry e = map (λ s. record { page = e.page; stamp = s }) (hist_stamps e.hist)

-- the references that entries hold
abbrev pub list_references_of : List Entry → List Reference
list_references_of [] = []
list_references_of (e ∷ h) = references_of_entry e ++ list_references_of h

-- the pages of entries rise
abbrev pub PagesAscend : List Entry → Type 0
PagesAscend h = IsAscending (on (λ e. e.page) page_cmp) h

-- the invariant of a history's entries: pages rise, and the stamps of each page fall
pub record IsListHistory (h : List Entry) : Type 0 where
  pub pages_ascend : PagesAscend h
  pub stamps_descend : AllByRecursion (λ e. IsDescending e.hist) h

-- the history h stands for the list of references S
abbrev pub ListStandsFor : List Entry → List Reference → Type 0
ListStandsFor h S = h ≡ list_history S

-- the join of two histories
abbrev pub list_join : List Entry → List Entry → List Entry
list_join h g = list_history (list_references_of h ++ list_references_of g)
