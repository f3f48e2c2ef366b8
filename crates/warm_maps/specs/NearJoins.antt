-- Two lists of maps, merged bucket by bucket.
use Rattle.std.specs.Prelude.{◌≡◌, ◌≢◌, ◌⊎◌, ℕ, ◌+◌, ◌*◌, ◌%◌, ◌<◌, ◌^◌, length, filter, Bool, true}
use Rattle.std.specs.Prelude.{false, List, [], ◌∷◌, ⊤, Option, Some, None, bit_or}
use Rattle.std.specs.Int.{bit_at}
use Rattle.std.specs.List.{AllByRecursion}
use Rattle.warm_stamps.specs.declared.TheConstants.{BUCKETS}
use Rattle.warm_maps.specs.declared.bucket_map.BucketMap.{BucketMap}
use Rattle.warm_maps.specs.declared.map_key.TheConstants.{KEYS_PER_BUCKET, KEYS_PER_DEVICE}
use Rattle.warm_maps.specs.declared.map_key.TheConstants.{NEAR_DEVICES}
use Rattle.warm_maps.specs.MapKeys.{IsMapKey}
use Rattle.warm_maps.specs.declared.hist.PageHist.{PageHist}
use Rattle.warm_maps.specs.declared.bucket_map.TheConstants.{MAX_PAIRS}
use Rattle.warm_maps.specs.MapPairs.{MapPairs}
use Rattle.warm_maps.specs.BucketMaps.{LiesIn, PassesIn, KeysAscend, found}
use Rattle.warm_maps.specs.Cuts.{cut_at}
use Rattle.warm_maps.specs.Runs.{with_pairs}
use Rattle.warm_maps.specs.Walks.{AddsPart, AreAbsent, DiffersAt, merged}

-- a pair is passed if the horizon leaves nothing of its value, and is added otherwise
abbrev pub AddsLeft : Option PageHist → Option PageHist → ℕ → MapPairs → MapPairs → MapPairs
    → MapPairs → Type 0
AddsLeft None known key changed fresh changed' fresh' = (changed' ≡ changed) × (fresh' ≡ fresh)
AddsLeft (Some more) known key changed fresh changed' fresh' =
    AddsPart known key more changed fresh changed' fresh'

-- the pairs now are those of old with new ones put in; if old has none, no list is needed
abbrev pub ArePutIn : Bool → MapPairs → MapPairs → MapPairs → Type 0
ArePutIn true fresh old now = old ≡ []
ArePutIn false fresh old now = AreAbsent fresh old × (now ≡ with_pairs old fresh)

-- the pairs of each map lie at rising keys
abbrev pub EachAscends : List MapPairs → Type 0
EachAscends [] = ⊤
EachAscends (m ∷ ms) = KeysAscend m × EachAscends ms

-- each map has so few pairs that the count of all does not overflow
abbrev pub EachFew : List MapPairs → Type 0
EachFew [] = ⊤
EachFew (m ∷ ms) = (length m < MAX_PAIRS) × EachFew ms

-- each map merged with the pairs of another, as far as they are not older than the horizon
abbrev pub joined_maps : ℕ → List MapPairs → List MapPairs → List MapPairs
joined_maps horizon [] more = []
joined_maps horizon (m ∷ ms) [] = m ∷ ms
joined_maps horizon (m ∷ ms) (r ∷ more) = merged m (cut_at horizon r) ∷ joined_maps horizon ms more

-- of the maps from this number on, the set has those that change as each is merged with the pairs
-- of another
abbrev pub HasChanged : ℕ → ℕ → List MapPairs → List MapPairs → ℕ → Type 0
HasChanged horizon number [] more set = set ≡ 0
HasChanged horizon number (m ∷ ms) [] set = set ≡ 0
HasChanged horizon number (m ∷ ms) (r ∷ more) set = (rest : ℕ)
    × HasChanged horizon (number + 1) ms more rest
    × (((merged m (cut_at horizon r) ≡ m) × (set ≡ rest))
    ⊎ (DiffersAt (cut_at horizon r) m (merged m (cut_at horizon r))
    × (set ≡ bit_or rest (2 ^ number))))

-- no map has pages of other devices than near ones
abbrev pub NoFar : List BucketMap → Type 0
NoFar ms = AllByRecursion (λ m. m.far.entries ≡ []) ms

-- the key is that of a page of a near device
abbrev pub IsNear : ℕ → Type 0
IsNear key = key % KEYS_PER_BUCKET < NEAR_DEVICES * KEYS_PER_DEVICE

-- at a key of the bucket the new pairs have another value
abbrev pub DiffersIn : ℕ → MapPairs → MapPairs → Type 0
DiffersIn bucket old new = (key : ℕ) × LiesIn bucket key × IsMapKey key
    × (found key new ≢ found key old)

-- the new pairs are the same in the bucket: a test that only its keys pass selects the same of both
abbrev pub SamePairsIn : ℕ → MapPairs → MapPairs → Type 0
SamePairsIn bucket old new = (test : ℕ → Bool) → PassesIn bucket test
    → filter (λ e. test e.0) new ≡ filter (λ e. test e.0) old

-- a bucket is in the set exactly if its pairs change
abbrev pub TellsBuckets : ℕ → MapPairs → MapPairs → Type 0
TellsBuckets set old new = (bucket : ℕ) → bucket < BUCKETS
    → (bit_at set bucket ≡ 1 → DiffersIn bucket old new)
    × (bit_at set bucket ≡ 0 → SamePairsIn bucket old new)
