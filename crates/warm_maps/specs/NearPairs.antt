-- The two maps of a bucket: the pages of near devices lie at near keys, and the others at full
-- keys. Together they are pairs at full keys.
use Rattle.std.specs.Prelude.{◌≡◌, ℕ, List, [], ◌∷◌, ◌++◌, ◌+◌, ◌≤◌, ◌<◌, ◌^◌, ⊤, length, map}
use Rattle.std.specs.Prelude.{Option, Some, None}
use Rattle.std.specs.List.{AllByRecursion}
use Rattle.warm_maps.specs.declared.hist.Entry.{Entry}
use Rattle.warm_maps.specs.declared.bucket_map.BucketMap.{BucketMap}
use Rattle.warm_maps.specs.declared.bucket_map.Lent.{Lent}
use Rattle.warm_maps.specs.declared.bucket_map.TheConstants.{MAX_PAIRS}
use Rattle.warm_maps.specs.MapKeys.{first_key, full_key, first_far_key}
use Rattle.warm_maps.specs.MapPairs.{MapPairs}

-- the pairs, with their keys changed
abbrev pub with_keys : (ℕ → ℕ) → MapPairs → MapPairs
with_keys f pairs = map (λ e. (f e.0, e.1)) pairs

-- the pairs at near keys, as pairs at the full keys of the bucket
abbrev pub widened : ℕ → MapPairs → MapPairs
widened bucket pairs = with_keys (full_key bucket) pairs

-- the pairs of a bucket's two maps
abbrev pub full : ℕ → BucketMap → MapPairs
full bucket m = widened bucket m.near.entries ++ m.far.entries

-- each bucket's pairs; the first two maps are those of the bucket of this number
abbrev pub fulls : ℕ → List BucketMap → List MapPairs
fulls bucket [] = []
fulls bucket (m ∷ ms) = full bucket m ∷ fulls (bucket + 1) ms

-- the key lies in the bucket, and is of no near device
abbrev pub IsFar : ℕ → ℕ → Type 0
IsFar bucket key = (first_far_key bucket ≤ key) × (key < first_key (bucket + 1))

-- both maps are of the bucket, and each has so few pairs that the count of all does not overflow
pub record IsMapOf (bucket : ℕ) (m : BucketMap) : Type 0 where
  pub near : AllByRecursion (λ e. e.0 < 2 ^ 64) m.near.entries
  pub far : AllByRecursion (λ e. IsFar bucket e.0) m.far.entries
  pub near_few : length m.near.entries < MAX_PAIRS
  pub far_few : length m.far.entries < MAX_PAIRS

-- the maps are of buckets one after the other, the first of the bucket of this number
abbrev pub AreMapsOf : ℕ → List BucketMap → Type 0
AreMapsOf bucket [] = ⊤
AreMapsOf bucket (m ∷ ms) = IsMapOf bucket m × AreMapsOf (bucket + 1) ms

-- neither map has a pair
abbrev pub IsBare : BucketMap → Type 0
IsBare m = (m.near.entries ≡ []) × (m.far.entries ≡ [])

-- the number of pairs in the maps
abbrev pub count_of : List BucketMap → ℕ
count_of [] = 0
count_of (m ∷ ms) = length m.near.entries + length m.far.entries + count_of ms

-- the pairs of each bucket at near keys
abbrev pub near_pairs : List BucketMap → List MapPairs
near_pairs ms = map (λ m. m.near.entries) ms

-- the pairs of each bucket at full keys
abbrev pub far_pairs : List BucketMap → List MapPairs
far_pairs ms = map (λ m. m.far.entries) ms

-- what is lent, as an entry
abbrev pub lent_entry : Option Lent → Option Entry
lent_entry None = None
lent_entry (Some l) = Some (record { page = l.page; hist = l.hist.now })
