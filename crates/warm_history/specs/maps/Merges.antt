-- The parts of a history, each the entries of some buckets, and how they merge in page order.
use Rattle.std.specs.Prelude.{ℕ, ◌&&◌, nat_lt, nat_le, cond, Bool, true, false, List, [], ◌∷◌}
use Rattle.std.specs.Prelude.{filter, Option, Some, None}
use Rattle.std.specs.Ordering.{is_gt}
use Rattle.warm_stamps.specs.declared.PageId.{PageId}
use Rattle.warm_stamps.specs.Stamps.{page_cmp}
use Rattle.warm_stamps.specs.Buckets.{page_bucket}
use Rattle.warm_maps.specs.declared.hist.Entry.{Entry}
use Rattle.warm_history.specs.declared.maps.merge_iter.BucketIter.{BucketIter}
use Rattle.warm_history.specs.declared.maps.merge_iter.MergeIter.{MergeIter}
use Rattle.warm_maps.specs.MapPairs.{as_entries}
use Rattle.warm_maps.specs.NearPairs.{lent_entry}

-- the number of the page's bucket is at least from, and less than to
abbrev pub is_between : ℕ → ℕ → PageId → Bool
is_between from to p = nat_le from (page_bucket p) && nat_lt (page_bucket p) to

-- the entries of the buckets from one number to before another
abbrev pub of_buckets : ℕ → ℕ → List Entry → List Entry
of_buckets from to es = filter (λ e. is_between from to e.page) es

-- the first of these entries, if there is one
abbrev pub first_of : List Entry → Option Entry
first_of [] = None
first_of (e ∷ es) = Some e

-- these entries without the first
abbrev pub rest_of : List Entry → List Entry
rest_of [] = []
rest_of (e ∷ es) = es

-- a is of a greater page than b, or b is there and a is not
abbrev pub is_later : Option Entry → Option Entry → Bool
is_later a None = false
is_later None (Some y) = true
is_later (Some x) (Some y) = is_gt (page_cmp x.page y.page)

-- `merge (x ∷ xs)`; `after` is `merge xs`
abbrev pub merge_at : Entry → List Entry → (List Entry → List Entry) → List Entry → List Entry
merge_at x xs after [] = x ∷ xs
merge_at x xs after (y ∷ ys) =
    cond (is_gt (page_cmp x.page y.page)) (y ∷ merge_at x xs after ys) (x ∷ after (y ∷ ys))

-- the entries of both lists, merged: the first entry of the second list is taken only if its page
-- is smaller
abbrev pub merge : List Entry → List Entry → List Entry
merge [] = λ ys. ys
merge (x ∷ xs) = merge_at x xs (merge xs)

-- the first entry and those that follow it; if there is none, nothing follows
abbrev pub from_first : Option Entry → List Entry → List Entry
from_first None later = []
from_first (Some e) later = e ∷ later

-- the entries left in a part
abbrev pub bucket_iter_left : BucketIter → List Entry
bucket_iter_left p = from_first (lent_entry p.first) (as_entries p.later)

-- the entries left in two sources, merged
abbrev pub both_left : {I : Type 0} → (I → List Entry) → List I → List Entry
both_left left (one ∷ other ∷ []) = merge (left one) (left other)
both_left left others = []

-- the entries left in a merged pair of sources
abbrev pub merge_iter_left : {I : Type 0} → (I → List Entry) → MergeIter I → List Entry
merge_iter_left left m = from_first (lent_entry m.first) (both_left left m.both)

-- the entries left in 2 parts, merged
abbrev pub two_left : MergeIter BucketIter → List Entry
two_left = merge_iter_left bucket_iter_left

-- the entries left in 4 parts, merged
abbrev pub four_left : MergeIter (MergeIter BucketIter) → List Entry
four_left = merge_iter_left two_left

-- the entries left in 8 parts, merged
abbrev pub eight_left : MergeIter (MergeIter (MergeIter BucketIter)) → List Entry
eight_left = merge_iter_left four_left

-- the entries left in 16 parts, merged
abbrev pub sixteen_left : MergeIter (MergeIter (MergeIter (MergeIter BucketIter))) → List Entry
sixteen_left = merge_iter_left eight_left

-- the entries left in 32 parts, merged
abbrev pub thirty_two_left : MergeIter (MergeIter (MergeIter (MergeIter (MergeIter BucketIter))))
    → List Entry
thirty_two_left = merge_iter_left sixteen_left

-- the entries left in all 64 parts, merged
abbrev pub all_left : MergeIter
    (MergeIter (MergeIter (MergeIter (MergeIter (MergeIter BucketIter))))) → List Entry
all_left = merge_iter_left thirty_two_left
