-- The result of an exchange of differing buckets.
use Rattle.std.specs.Prelude.{◌≡◌, ◌≢◌, ◌⊎◌, ◌↔◌, ℕ, ◌==◌, ◌<◌, List}
use Rattle.std.specs.List.{AllByRecursion}
use Rattle.std.specs.Int.{bit_at}
use Rattle.sha2.specs.Sha256.{sha256}
use Rattle.warm_stamps.specs.declared.Reference.{Reference}
use Rattle.warm_stamps.specs.declared.TheConstants.{BUCKETS}
use Rattle.warm_stamps.specs.Bytes.{IsPage, IsStamp}
use Rattle.warm_stamps.specs.Buckets.{page_bucket}
use Rattle.warm_history.specs.ReferenceSets.{ReferenceSet, ◌∪◌, filter_references}
use Rattle.warm_history.specs.Histories.{HistoryView, entries_of, history}
use Rattle.warm_history.specs.Carried.{bucket_entries}
use Rattle.warm_frames.specs.Entries.{IsEntry, entries_bytes}

-- the text of a bucket: the bytes that are hashed for its digest
abbrev pub bucket_text : HistoryView → ℕ → List ℕ
bucket_text h bucket = entries_bytes (bucket_entries bucket (entries_of h))

-- two different texts of one bucket, one of each history, have the same SHA-256 digest
pub record IsCollision (h g : HistoryView) : Type 0 where
  pub bucket : ℕ
  pub low : bucket < BUCKETS
  pub differ : bucket_text h bucket ≢ bucket_text g bucket
  pub same_digest : sha256 (bucket_text h bucket) ≡ sha256 (bucket_text g bucket)

-- the set of the buckets whose digests differ
abbrev pub IsDifferenceOf : HistoryView → HistoryView → ℕ → Type 0
IsDifferenceOf h g buckets = (bucket : ℕ) → bucket < BUCKETS
    → (bit_at buckets bucket ≡ 1) ↔ (sha256 (bucket_text h bucket) ≢ sha256 (bucket_text g bucket))

-- the references of S to pages of these buckets
abbrev pub in_buckets : ℕ → ReferenceSet → ReferenceSet
in_buckets buckets S = filter_references (λ r. bit_at buckets (page_bucket r.page) == 1) S

-- a valid page with a valid stamp
pub record IsReference (r : Reference) : Type 0 where
  pub page : IsPage r.page
  pub stamp : IsStamp r.stamp

-- valid references
abbrev pub AreReferences : List Reference → Type 0
AreReferences rs = AllByRecursion IsReference rs

-- the entries of a history are valid
abbrev pub Fits : HistoryView → Type 0
Fits h = AllByRecursion IsEntry (entries_of h)

-- T with the references of S in the differing buckets has the history of both, or there is a
-- collision
abbrev pub ExchangeJoins : Type 0
ExchangeJoins = (S T : ReferenceSet) (buckets : ℕ) → Fits (history S) → Fits (history T)
    → IsDifferenceOf (history S) (history T) buckets
    → (history (T ∪ in_buckets buckets S) ≡ history (T ∪ S)) ⊎ IsCollision (history S) (history T)
