-- The definitions, computed on small lists of references.
use Rattle.std.proofs.Common.{◌≡◌, ℕ, [], ◌∷◌, Some, None, refl}
use Rattle.warm_stamps.specs.declared.Stamp.{Stamp}
use Rattle.warm_stamps.specs.declared.PageId.{PageId}
use Rattle.warm_stamps.specs.declared.Reference.{Reference}
use Rattle.warm_maps.specs.declared.hist.PageHist.TheVariants.{Once, Twice}
use Rattle.warm_maps.specs.declared.hist.Entry.{Entry}
use Rattle.warm_history.specs.ReferenceSets.{ReferenceSet, set_of_list, with_horizon}
use Rattle.warm_history.specs.Histories.{history_of_entries, history_of_entries_at, history, join}
use Rattle.warm_history.specs.Carried.{carried}
use Rattle.warm_maps.specs.Walks.{merged}
use Rattle.warm_history.specs.Changes.{ChangesIn, SameInBucket}
use Rattle.warm_history.specs.Losses.{KeepsIn, bucket_at_horizon}
use Rattle.warm_history.specs.Since.{carried_since, entries_since}

abbrev pub page : ℕ → ℕ → PageId
page dev n = record { dev = dev; no = n }

abbrev pub at : ℕ → ℕ → Stamp
at time replica = record { time = time; replica = replica }

-- the page 0:n, referenced at a time at a replica
abbrev pub seen : ℕ → ℕ → ℕ → Reference
seen n time replica = record { page = page 0 n; stamp = at time replica }

abbrev pub once : ℕ → Stamp → Entry
once n s = record { page = page 0 n; hist = Once s }

abbrev pub twice : ℕ → Stamp → Stamp → Entry
twice n last prev = record { page = page 0 n; hist = Twice (record { last = last; prev = prev }) }

-- ---- what is kept of references

-- the two latest of three
three_times : history (set_of_list (seen 1 10 1 ∷ seen 1 20 1 ∷ seen 1 30 1 ∷ []))
    ≡ history_of_entries (twice 1 (at 30 1) (at 20 1) ∷ [])
unfolding history
three_times = refl

-- the same pair twice is one reference
same_pair : history (set_of_list (seen 1 10 1 ∷ seen 1 10 1 ∷ []))
    ≡ history_of_entries (once 1 (at 10 1) ∷ [])
unfolding history
same_pair = refl

-- the order of arrival doesn't matter
late_arrival : history (set_of_list (seen 1 30 1 ∷ seen 1 20 1 ∷ seen 1 10 1 ∷ []))
    ≡ history_of_entries (twice 1 (at 30 1) (at 20 1) ∷ [])
unfolding history
late_arrival = refl

-- one time at two replicas is two stamps
two_replicas : history (set_of_list (seen 1 5 1 ∷ seen 1 5 2 ∷ []))
    ≡ history_of_entries (twice 1 (at 5 2) (at 5 1) ∷ [])
unfolding history
two_replicas = refl

-- at the greatest time too
greatest_time : history
    (set_of_list (seen 1 18446744073709551615 1 ∷ seen 1 18446744073709551615 2 ∷ []))
    ≡ history_of_entries (twice 1 (at 18446744073709551615 2) (at 18446744073709551615 1) ∷ [])
unfolding history
greatest_time = refl

-- the entries rise by page
in_page_order : history (set_of_list (seen 7 1 1 ∷ seen 2 2 1 ∷ seen 7 3 1 ∷ []))
    ≡ history_of_entries (once 2 (at 2 1) ∷ twice 7 (at 3 1) (at 1 1) ∷ [])
unfolding history
in_page_order = refl

-- ---- joins

-- the two latest of all four, and not the greater of each position
joined : join (history_of_entries (twice 1 (at 20 1) (at 10 1) ∷ []))
    (history_of_entries (twice 1 (at 30 2) (at 15 2) ∷ []))
    ≡ history_of_entries (twice 1 (at 30 2) (at 20 1) ∷ [])
unfolding history
joined = refl

-- the other way round too
joined_back : join (history_of_entries (twice 1 (at 30 2) (at 15 2) ∷ []))
    (history_of_entries (twice 1 (at 20 1) (at 10 1) ∷ []))
    ≡ history_of_entries (twice 1 (at 30 2) (at 20 1) ∷ [])
unfolding history
joined_back = refl

-- entries that fall by page join as they would in order
any_order : join (history_of_entries [])
    (history_of_entries (once 2 (at 7 1) ∷ once 1 (at 8 1) ∷ []))
    ≡ history_of_entries (once 1 (at 8 1) ∷ once 2 (at 7 1) ∷ [])
unfolding history
any_order = refl

-- ---- what is carried: 0:1, 0:65 and 1:0 are all pages of bucket 1

one_bucket : ReferenceSet
one_bucket = set_of_list (record { page = page 1 0; stamp = at 3 1 } ∷ seen 65 2 1 ∷ seen 1 1 1 ∷ [])

-- the first two of the bucket
from_the_start : history (carried one_bucket 1 None 2)
    ≡ history_of_entries (once 1 (at 1 1) ∷ once 65 (at 2 1) ∷ [])
unfolding history one_bucket
from_the_start = refl

-- those after a page
after_a_page : history (carried one_bucket 1 (Some (page 0 65)) 2)
    ≡ history_of_entries (record { page = page 1 0; hist = Once (at 3 1) } ∷ [])
unfolding history one_bucket
after_a_page = refl

-- none after the last page, and none of another bucket
after_the_last : history (carried one_bucket 1 (Some (page 1 0)) 2) ≡ history_of_entries []
unfolding history one_bucket
after_the_last = refl

another_bucket : history (carried one_bucket 2 None 2) ≡ history_of_entries []
unfolding history one_bucket
another_bucket = refl

-- ---- what a bucket has since a time: the latest stamps of its pages 1, 65 and 129 are at 9, 4, 12

sent_before : ReferenceSet
sent_before = set_of_list (seen 1 9 1 ∷ seen 1 2 1 ∷ seen 65 4 1 ∷ seen 129 12 1 ∷ seen 2 20 1 ∷ [])

-- an entry has its older stamp too
since_a_time : history (carried_since sent_before 1 5 None 3)
    ≡ history_of_entries (twice 1 (at 9 1) (at 2 1) ∷ once 129 (at 12 1) ∷ [])
unfolding history sent_before
since_a_time = refl

-- one by one: the second portion begins after the page of the first
first_portion : history (carried_since sent_before 1 5 None 1)
    ≡ history_of_entries (twice 1 (at 9 1) (at 2 1) ∷ [])
unfolding history sent_before
first_portion = refl

second_portion : history (carried_since sent_before 1 5 (Some (page 0 1)) 1)
    ≡ history_of_entries (once 129 (at 12 1) ∷ [])
unfolding history sent_before
second_portion = refl

-- a stamp at the time itself is not before it, and entries of other buckets are left out
at_the_time : entries_since 1 4 None (once 1 (at 3 1) ∷ once 2 (at 5 1) ∷ once 65 (at 4 1) ∷ [])
    ≡ once 65 (at 4 1) ∷ []
at_the_time = refl

-- ---- horizons

-- what is older than the horizon is forgotten
forgotten : history (with_horizon 15 (set_of_list (seen 1 10 1 ∷ seen 1 20 1 ∷ seen 2 5 1 ∷ [])))
    ≡ history_of_entries_at 15 (once 1 (at 20 1) ∷ [])
unfolding history
forgotten = refl

-- the greater horizon wins, on both sides
cut_by_other : join (history_of_entries_at 9 (twice 1 (at 9 2) (at 8 2) ∷ []))
    (history_of_entries_at 12 (once 1 (at 20 1) ∷ []))
    ≡ history_of_entries_at 12 (once 1 (at 20 1) ∷ [])
unfolding history
cut_by_other = refl

-- ---- a run merged with pairs: the value at key 5 changes, that at 7 is known, and 9 is new

merged_run : merged ((3, Once (at 1 1)) ∷ (5, Once (at 2 1)) ∷ (7, Once (at 4 1)) ∷ [])
    ((5, Once (at 8 1)) ∷ (7, Once (at 4 1)) ∷ (9, Once (at 6 1)) ∷ [])
    ≡ (3, Once (at 1 1)) ∷ (5, Twice (record { last = at 8 1; prev = at 2 1 })) ∷ (7, Once (at 4 1))
    ∷ (9, Once (at 6 1)) ∷ []
merged_run = refl

-- ---- which buckets change

-- a page more is in bucket 7, and pages 1 and 65 are in bucket 1
changes_in_own : ChangesIn 7 (once 1 (at 5 1) ∷ once 65 (at 6 1) ∷ [])
    (once 1 (at 5 1) ∷ once 7 (at 8 1) ∷ once 65 (at 6 1) ∷ [])
changes_in_own same = absurd (cc)

stays_in_others : SameInBucket 1 (once 1 (at 5 1) ∷ once 65 (at 6 1) ∷ [])
    (once 1 (at 5 1) ∷ once 7 (at 8 1) ∷ once 65 (at 6 1) ∷ [])
stays_in_others = refl

-- at 10 page 1 loses a stamp, and page 2 none
loses_one : bucket_at_horizon 10 1
    (history_of_entries (twice 1 (at 12 1) (at 5 1) ∷ once 2 (at 10 1) ∷ []))
    ≡ once 1 (at 12 1) ∷ []
unfolding history
loses_one = refl

keeps_other : KeepsIn 10 2 (history_of_entries (twice 1 (at 12 1) (at 5 1) ∷ once 2 (at 10 1) ∷ []))
unfolding history
keeps_other = refl
