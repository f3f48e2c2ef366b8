-- Tables of bucket digests.
use Rattle.std.specs.Prelude.{◌≡◌, ℕ, ◌*◌, List, [], length, slice_index_or}
use Rattle.std.specs.List.{AllByRecursion}
use Rattle.warm_stamps.specs.declared.TheConstants.{BUCKETS}
use Rattle.warm_frames.specs.declared.layout.TheConstants.{DIGEST_SIZE}

-- a digest for each bucket
pub record IsDigestTable (digests : List (List ℕ)) : Type 0 where
  pub count : length digests ≡ BUCKETS
  pub each : AllByRecursion (λ digest. length digest ≡ DIGEST_SIZE) digests

-- the digest of a bucket
abbrev pub digest_at : List (List ℕ) → ℕ → List ℕ
digest_at digests bucket = slice_index_or digests bucket []

-- the size of a table in bytes
abbrev pub table_size : ℕ
table_size = DIGEST_SIZE * BUCKETS
