-- Which buckets change from one list of entries to another.
use Rattle.std.specs.Prelude.{◌≡◌, ◌≢◌, ℕ, ◌<◌, List}
use Rattle.std.specs.Int.{bit_at}
use Rattle.warm_stamps.specs.declared.TheConstants.{BUCKETS}
use Rattle.warm_maps.specs.declared.hist.Entry.{Entry}
use Rattle.warm_history.specs.Carried.{bucket_entries}

-- the new list has other entries of the bucket than the old one
abbrev pub ChangesIn : ℕ → List Entry → List Entry → Type 0
ChangesIn bucket old new = bucket_entries bucket new ≢ bucket_entries bucket old

-- the new list has the same entries of the bucket
abbrev pub SameInBucket : ℕ → List Entry → List Entry → Type 0
SameInBucket bucket old new = bucket_entries bucket new ≡ bucket_entries bucket old

-- the bit of a bucket is 1 only if its entries changed from the old list to the new one, and 0 only
-- if they are the same
abbrev pub SaysChange : List Entry → List Entry → ℕ → ℕ → Type 0
SaysChange old new bucket bit = (bit ≡ 1 → ChangesIn bucket old new)
    × (bit ≡ 0 → SameInBucket bucket old new)

-- a bucket is in the set exactly if its entries change
abbrev pub MarksChanged : List Entry → List Entry → ℕ → Type 0
MarksChanged old new buckets = (bucket : ℕ) → bucket < BUCKETS
    → SaysChange old new bucket (bit_at buckets bucket)
