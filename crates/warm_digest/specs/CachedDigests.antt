-- Digests that are cached while a history changes, and recomputed bucket by bucket.
use Rattle.std.specs.Prelude.{◌≡◌, ◌⊎◌, ◌↔◌, ℕ, ◌<◌, List}
use Rattle.std.specs.Int.{bit_at}
use Rattle.warm_stamps.specs.declared.TheConstants.{BUCKETS}
use Rattle.warm_history.specs.Entry.{Entry}
use Rattle.warm_history.specs.Changes.{ChangesIn}
use Rattle.warm_history.specs.Histories.{HistoryView, entries_of}
use Rattle.warm_history.specs.Losses.{LosesIn}
use Rattle.warm_frames.specs.Digests.{digest_at}
use Rattle.warm_digest.specs.BucketDigests.{bucket_digest}

-- each bucket whose bit is set has the digest of its entries
abbrev pub HasDigestsOf : ℕ → List Entry → List (List ℕ) → Type 0
HasDigestsOf buckets h digests = (bucket : ℕ) → bucket < BUCKETS → bit_at buckets bucket ≡ 1
    → digest_at digests bucket ≡ bucket_digest h bucket

-- each bucket whose bit is clear has the digest that it had
abbrev pub SameDigestsOutside : ℕ → List (List ℕ) → List (List ℕ) → Type 0
SameDigestsOutside buckets old new = (bucket : ℕ) → bucket < BUCKETS → bit_at buckets bucket ≡ 0
    → digest_at new bucket ≡ digest_at old bucket

-- each bucket that isn't marked as changed has the digest of its entries
abbrev pub AreCurrent : ℕ → List Entry → List (List ℕ) → Type 0
AreCurrent changed h digests = (bucket : ℕ) → bucket < BUCKETS → bit_at changed bucket ≡ 0
    → digest_at digests bucket ≡ bucket_digest h bucket

-- what contracts see of a history with cached digests: the history, and the set of the buckets
-- whose digest must be recomputed
pub record DigestedView : Type 0 where
  pub history : HistoryView
  pub marked : ℕ

-- a bucket is marked now exactly if it was marked before, or its entries have changed
abbrev pub MarksChanges : DigestedView → DigestedView → Type 0
MarksChanges old new = (bucket : ℕ) → bucket < BUCKETS
    → (bit_at new.marked bucket ≡ 1)
    ↔ ((bit_at old.marked bucket ≡ 1)
    ⊎ ChangesIn bucket (entries_of old.history) (entries_of new.history))

-- a bucket stays marked exactly if it was marked and would lose a stamp at the horizon
abbrev pub StaysMarked : ℕ → HistoryView → ℕ → ℕ → Type 0
StaysMarked horizon h old new = (bucket : ℕ) → bucket < BUCKETS → (bit_at new bucket ≡ 1)
    ↔ ((bit_at old bucket ≡ 1) × LosesIn horizon bucket h)
