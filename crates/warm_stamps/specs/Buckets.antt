-- The classes (buckets) of pages. A set of buckets is a number of 64 bits: bit b, of value 2^b, is
-- 1 if bucket b is in the set.
use Rattle.std.specs.Prelude.{ℕ, ◌+◌, ◌-◌, ◌%◌, ◌<◌, ◌==◌, List, filter}
use Rattle.std.specs.Int.{bit_at}
use Rattle.std.specs.List.{range_with_len}
use Rattle.warm_stamps.specs.declared.PageId.{PageId}
use Rattle.warm_stamps.specs.declared.TheConstants.{BUCKETS}

-- the valid bucket numbers
abbrev pub IsBucket : ℕ → Type 0
IsBucket n = n < BUCKETS

-- the device's number plus the page's number, modulo the number of buckets
abbrev pub page_bucket : PageId → ℕ
page_bucket p = (p.dev + p.no) % BUCKETS

-- the buckets of a set from this number on, in rising order
abbrev pub buckets_from : ℕ → ℕ → List ℕ
buckets_from set first = filter (λ b. bit_at set b == 1) (range_with_len first (BUCKETS - first))

-- the buckets of a set, in rising order
abbrev pub buckets_in : ℕ → List ℕ
buckets_in set = buckets_from set 0
