-- What a replica sends of a bucket in one frame.
use Rattle.std.specs.Prelude.{◌≡◌, ℕ, ◌==◌, List, filter, take, Option}
use Rattle.std.specs.List.{list_any}
use Rattle.std.specs.Ordering.{is_eq}
use Rattle.warm_stamps.specs.declared.PageId.{PageId}
use Rattle.warm_stamps.specs.Buckets.{page_bucket}
use Rattle.warm_stamps.specs.Stamps.{page_cmp}
use Rattle.warm_history.specs.ReferenceSets.{ReferenceSet, filter_references}
use Rattle.warm_maps.specs.declared.hist.Entry.{Entry}
use Rattle.warm_history.specs.Histories.{HistoryView, entries_of, history, pages, StandsFor}
pub use Rattle.warm_maps.specs.LaterPages.{comes_after, is_next_in_bucket, later_of_bucket}
pub use Rattle.warm_maps.specs.LaterPages.{after_page}

-- the first pages of S, at most limit, of those in the bucket that come after the given one
abbrev pub pages_carried : ReferenceSet → ℕ → Option PageId → ℕ → List PageId
pages_carried S bucket after limit = take limit (filter (is_next_in_bucket bucket after) (pages S))

-- the references of S to these pages
abbrev pub carried : ReferenceSet → ℕ → Option PageId → ℕ → ReferenceSet
carried S bucket after limit = filter_references
    (λ r. list_any (λ p. is_eq (page_cmp p r.page)) (pages_carried S bucket after limit)) S

-- these are the entries of the carried references, whichever references the history stands for
abbrev pub AreCarried : HistoryView → ℕ → Option PageId → ℕ → List Entry → Type 0
AreCarried h bucket after limit es = (S : ReferenceSet) → StandsFor h S
    → es ≡ entries_of (history (carried S bucket after limit))

-- the entries of a bucket, in the order of the list
abbrev pub bucket_entries : ℕ → List Entry → List Entry
bucket_entries bucket = filter (λ e. page_bucket e.page == bucket)
