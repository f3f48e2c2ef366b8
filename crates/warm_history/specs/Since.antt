-- What a bucket has since a time: the pages whose latest stamp is not before it.
use Rattle.std.specs.Prelude.{◌≡◌, ℕ, ◌+◌, Bool, true, false, List, filter, take, drop, Option}
use Rattle.std.specs.Prelude.{Some, None, Contains, slice_get}
use Rattle.std.specs.List.{list_any}
use Rattle.std.specs.Ordering.{is_eq}
use Rattle.warm_stamps.specs.declared.PageId.{PageId}
use Rattle.warm_stamps.specs.declared.Reference.{Reference}
use Rattle.warm_stamps.specs.Stamps.{page_cmp}
use Rattle.warm_maps.specs.declared.hist.PageHist.{PageHist}
use Rattle.warm_maps.specs.declared.hist.Entry.{Entry}
use Rattle.warm_history.specs.Carried.{is_next_in_bucket, later_of_bucket}
use Rattle.warm_history.specs.Histories.{HistoryView, IsHistory, StandsFor, entries_of, hist}
use Rattle.warm_history.specs.Histories.{history, history_of_entries_at, pages, references_of}
use Rattle.warm_history.specs.KeptEntries.{is_recent}
use Rattle.warm_history.specs.ReferenceSets.{ReferenceSet, filter_references, is_kept, references}
use Rattle.warm_history.specs.ReferenceSets.{◌∪◌}
use Rattle.warm_history.specs.References.{IsIn}

-- Over references

-- the latest stamp of a page, if it has one, is not before the time
abbrev pub is_since : ℕ → Option PageHist → Bool
is_since since None = false
is_since since (Some h) = is_recent since h

-- the pages of S in the bucket that come after the given one, and whose latest stamp is not before
-- the time
abbrev pub pages_since : ReferenceSet → ℕ → ℕ → Option PageId → List PageId
pages_since S bucket since after =
    filter (λ p. is_since since (hist S p)) (filter (is_next_in_bucket bucket after) (pages S))

-- the references of S to the first of these pages, at most limit; to each, those before the time
-- too
abbrev pub carried_since : ReferenceSet → ℕ → ℕ → Option PageId → ℕ → ReferenceSet
carried_since S bucket since after limit = filter_references
    (λ r. list_any (λ p. is_eq (page_cmp p r.page)) (take limit (pages_since S bucket since after)))
    S

-- es are the entries of the references that `carried_since` gives, whichever references the history
-- stands for
abbrev pub AreCarriedSince : HistoryView → ℕ → ℕ → Option PageId → ℕ → List Entry → Type 0
AreCarriedSince h bucket since after limit es = (S : ReferenceSet) → StandsFor h S
    → es ≡ entries_of (history (carried_since S bucket since after limit))

-- Over entries

-- the entries whose latest stamp is not before the time
abbrev pub recent_entries : ℕ → List Entry → List Entry
recent_entries since es = filter (λ e. is_recent since e.hist) es

-- the entries of a bucket whose latest stamp is not before the time, and whose page is greater than
-- the given one, if one is given
abbrev pub entries_since : ℕ → ℕ → Option PageId → List Entry → List Entry
entries_since bucket since after es = recent_entries since (later_of_bucket bucket after es)

-- Laws

-- T has each reference that S keeps from before the time, unless it is older than T's horizon
abbrev pub HasBefore : ℕ → ReferenceSet → ReferenceSet → Type 0
HasBefore since S T = (r : Reference) → IsIn r (references S) → is_kept since r.stamp ≡ false
    → is_kept T.horizon r.stamp ≡ true → IsIn r (references T)

-- es are entries of the history, and among them each whose latest stamp is not before the time
pub record AreSince (since : ℕ) (h : HistoryView) (es : List Entry) : Type 0 where
  pub own : (e : Entry) → Contains es e → Contains (entries_of h) e
  pub each : (e : Entry) → Contains (entries_of h) e → is_recent since e.hist ≡ true → Contains es e

-- who has all that S keeps from before the time, and takes in the entries of its history since
-- then, has all that S keeps
abbrev pub SinceBringsAll : Type 0
SinceBringsAll = (S T : ReferenceSet) (since : ℕ) (es : List Entry) → HasBefore since S T
    → AreSince since (history S) es
    → history (T ∪ references_of (history_of_entries_at S.horizon es)) ≡ history (T ∪ S)

-- what a bucket has since a time after the page of one of these entries are those behind that one
abbrev pub PortionsGoOn : Type 0
PortionsGoOn = (h : HistoryView) (bucket since : ℕ) (after : Option PageId) (k : ℕ) (e : Entry)
    → IsHistory h → slice_get (entries_since bucket since after (entries_of h)) k ≡ Some e
    → entries_since bucket since (Some e.page) (entries_of h)
    ≡ drop (k + 1) (entries_since bucket since after (entries_of h))
