-- The digests by which replicas compare histories bucket by bucket.
use Rattle.std.specs.Prelude.{◌≡◌, ◌≢◌, ◌↔◌, ◌<◌, ℕ, List, map}
use Rattle.std.specs.Int.{bit_at}
use Rattle.std.specs.List.{range_with_len}
use Rattle.sha2.specs.Sha256.{sha256}
use Rattle.warm_stamps.specs.declared.TheConstants.{BUCKETS}
use Rattle.warm_history.specs.Entry.{Entry}
use Rattle.warm_history.specs.Carried.{bucket_entries}
use Rattle.warm_history.specs.Histories.{HistoryView, entries_of}
use Rattle.warm_history.specs.Losses.{raised}
use Rattle.warm_frames.specs.Entries.{entries_bytes}
use Rattle.warm_frames.specs.Digests.{digest_at}

-- the SHA-256 digest of a bucket's entries, one after the other
abbrev pub bucket_digest : List Entry → ℕ → List ℕ
bucket_digest h bucket = sha256 (entries_bytes (bucket_entries bucket h))

-- the digests of a history, that of bucket 0 first
abbrev pub digests_of : List Entry → List (List ℕ)
digests_of h = map (bucket_digest h) (range_with_len 0 BUCKETS)

-- the digests that a history would have if it were raised to the horizon
abbrev pub digests_at_horizon : ℕ → HistoryView → List (List ℕ)
digests_at_horizon horizon h = digests_of (entries_of (raised horizon h))

-- a bit of the set is set exactly if the digests of the bucket of its number differ
abbrev pub MarksDiffering : ℕ → List (List ℕ) → List (List ℕ) → Type 0
MarksDiffering buckets left right = (bucket : ℕ) → bucket < BUCKETS → (bit_at buckets bucket ≡ 1)
    ↔ (digest_at left bucket ≢ digest_at right bucket)
