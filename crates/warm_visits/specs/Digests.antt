-- Digests of all buckets, gathered from the shards.
use Rattle.std.specs.Prelude.{◌≡◌, ◌≢◌, ℕ, ◌%◌, ◌<◌, List, length}
use Rattle.warm_stamps.specs.declared.TheConstants.{BUCKETS}
use Rattle.warm_frames.specs.Digests.{digest_at}

-- the digests of this shard's buckets are those of the table; the others are as before
pub record FillsShard (count shard : ℕ) (old table new : List (List ℕ)) : Type 0 where
  pub size : length new ≡ length old
  pub own : (bucket : ℕ) → bucket < BUCKETS → bucket % count ≡ shard
      → digest_at new bucket ≡ digest_at table bucket
  pub others : (bucket : ℕ) → bucket % count ≢ shard → digest_at new bucket ≡ digest_at old bucket
