-- How many shards there can be, the shard of a page, and the references to pages of one shard.
use Rattle.std.specs.Prelude.{ℕ, ◌%◌, ◌≤◌, IsTrue, nat_eq, nat_lt}
use Rattle.std.specs.Int.{is_power_of_two}
use Rattle.warm_stamps.specs.declared.PageId.{PageId}
use Rattle.warm_stamps.specs.declared.TheConstants.{BUCKETS}
use Rattle.warm_stamps.specs.Buckets.{page_bucket}
use Rattle.warm_history.specs.ReferenceSets.{ReferenceSet, filter_references}

-- a valid number of shards: a power of two, up to the number of buckets
abbrev pub IsShardCount : ℕ → Type 0
IsShardCount count = IsTrue (is_power_of_two count) × (count ≤ BUCKETS)

-- the shard of a page: its bucket, modulo the number of shards
abbrev pub shard_of : ℕ → PageId → ℕ
shard_of count p = page_bucket p % count

-- the references to pages of one shard
abbrev pub of_shard : ℕ → ℕ → ReferenceSet → ReferenceSet
of_shard count i S = filter_references (λ r. nat_eq (shard_of count r.page) i) S

-- the references to pages of the first k shards
abbrev pub of_first_shards : ℕ → ℕ → ReferenceSet → ReferenceSet
of_first_shards count k S = filter_references (λ r. nat_lt (shard_of count r.page) k) S
