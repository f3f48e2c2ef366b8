-- The history of kept references, read as a set of pages with stamps.
use Rattle.std.specs.Prelude.{◌≡◌, ℕ, List, map, filter, Option, true}
use Rattle.std.specs.List.{AllByRecursion, filter_map}
use Rattle.std.specs.Option.{option_map}
use Rattle.std.specs.Ordering.{is_eq, flip_args}
use Rattle.warm_stamps.specs.declared.Stamp.{Stamp}
use Rattle.warm_stamps.specs.declared.PageId.{PageId}
use Rattle.warm_stamps.specs.declared.Reference.{Reference}
use Rattle.warm_stamps.specs.Stamps.{stamp_cmp, page_cmp}
use Rattle.warm_stamps.specs.Distinct.{distinct}
use Rattle.warm_maps.specs.declared.hist.PageHist.{PageHist}
use Rattle.warm_maps.specs.declared.hist.Entry.{Entry}
use Rattle.warm_history.specs.ReferenceSets.{ReferenceSet, is_kept, references, ◌∪◌}
use Rattle.warm_history.specs.ListHistories.{list_references_of}
pub use Rattle.warm_history.specs.ListHistories.{first_two, latest_of, hist_stamps, known_stamps}
pub use Rattle.warm_history.specs.ListHistories.{references_of_entry, IsDescending, PagesAscend}

-- what contracts see of a history: its horizon and its entries
pub record HistoryView : Type 0 where
  pub horizon : ℕ
  pub entries : List Entry

-- the entries of a history
abbrev pub entries_of : HistoryView → List Entry
entries_of h = h.entries

-- the history of these entries, with horizon 0
abbrev pub history_of_entries : List Entry → HistoryView
history_of_entries es = record { horizon = 0; entries = es }

-- the history of these entries at a horizon
abbrev pub history_of_entries_at : ℕ → List Entry → HistoryView
history_of_entries_at horizon es = record { horizon = horizon; entries = es }

-- the references of S to the page p
abbrev pub references_to : ReferenceSet → PageId → List Reference
references_to S p = filter (λ r. is_eq (page_cmp r.page p)) (references S)

-- the distinct stamps of the page p in S, greatest first
abbrev pub stamps : ReferenceSet → PageId → List Stamp
stamps S p = distinct (flip_args stamp_cmp) (map (λ r. r.stamp) (references_to S p))

-- the two latest stamps of the page p in S
abbrev pub hist : ReferenceSet → PageId → Option PageHist
hist S p = first_two (stamps S p)

-- the pages named in S, rising
abbrev pub pages : ReferenceSet → List PageId
pages S = distinct page_cmp (map (λ r. r.page) (references S))

-- the page p with its two latest stamps, if S names it
abbrev pub entry_of : ReferenceSet → PageId → Option Entry
entry_of S p = option_map (λ h. record { page = p; hist = h }) (hist S p)

-- the horizon of S, and the two latest stamps of each page named in S, in rising page order
unfoldable pub history : ReferenceSet → HistoryView
history S = record { horizon = S.horizon; entries = filter_map (entry_of S) (pages S) }

-- the references that entries hold
abbrev pub references_of_entries : List Entry → List Reference
references_of_entries es = list_references_of es

-- the references that a history holds
abbrev pub references_of : HistoryView → ReferenceSet
references_of h = record { horizon = h.horizon; given = list_references_of (entries_of h) }

-- the stamps of a page's history aren't older than the horizon
abbrev pub IsKept : ℕ → PageHist → Type 0
IsKept horizon h = AllByRecursion (λ s. is_kept horizon s ≡ true) (hist_stamps h)

-- no stamp of the entries is older than the horizon
abbrev pub NoneOlder : ℕ → List Entry → Type 0
NoneOlder horizon es = AllByRecursion (λ e. IsKept horizon e.hist) es

-- the invariant of histories: pages rise, the stamps of each page fall, and no stamp is older than
-- the horizon
pub record IsHistory (h : HistoryView) : Type 0 where
  pub pages_ascend : PagesAscend (entries_of h)
  pub stamps_descend : AllByRecursion (λ e. IsDescending e.hist) (entries_of h)
  pub none_older : NoneOlder h.horizon (entries_of h)

-- the history h stands for the kept references S
abbrev pub StandsFor : HistoryView → ReferenceSet → Type 0
StandsFor h S = h ≡ history S

-- new is old with these references taken in: it stands for what old stands for, united with them
abbrev pub TakesIn : HistoryView → ReferenceSet → HistoryView → Type 0
TakesIn old rs new = (S : ReferenceSet) → StandsFor old S → StandsFor new (S ∪ rs)

-- the join of two histories: the history of all references that they hold
abbrev pub join : HistoryView → HistoryView → HistoryView
join h g = history (references_of h ∪ references_of g)

-- the order whose least upper bound is the join: joining the first history to the second adds
-- nothing
abbrev pub IsBelow : HistoryView → HistoryView → Type 0
IsBelow h g = join h g ≡ g
