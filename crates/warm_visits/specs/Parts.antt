-- The parts of a list whose items name pages, one for each shard: of a batch, or of entries.
use Rattle.std.specs.Prelude.{◌≡◌, ◌≢◌, ℕ, zero, suc, ◌<◌, ◌≤◌, List, [], ◌∷◌, filter, length}
use Rattle.std.specs.Prelude.{nat_eq, nat_lt, slice_index, slice_index_or, slice_range}
use Rattle.warm_stamps.specs.declared.PageId.{PageId}
use Rattle.warm_stamps.specs.declared.Reference.{Reference}
use Rattle.warm_history.specs.Entry.{Entry}
use Rattle.warm_visits.specs.ShardNumbers.{shard_of}

-- the items whose page is of the shard, in order
abbrev pub own_items : {A : Type 0} → (A → PageId) → ℕ → ℕ → List A → List A
own_items page shards shard xs = filter (λ x. nat_eq (shard_of shards (page x)) shard) xs

-- as many parts as shards, of each shard its own items
pub record AreShardParts {A : Type 0} (page : A → PageId) (count : ℕ) (xs : List A)
    (parts : List (List A)) : Type 0 where
  pub size : length parts ≡ count
  pub part : (i : ℕ) → i < count → slice_index_or parts i [] ≡ own_items page count i xs

-- the first part from this one on that is not empty; or how many there are
pub record IsFirstSome {A : Type 0} (parts : List (List A)) (start first : ℕ) : Type 0 where
  pub from : start ≤ first
  pub below : first ≤ length parts
  pub passed : (i : ℕ) → start ≤ i → i < first → slice_index_or parts i [] ≡ []
  pub there : first < length parts → slice_index_or parts first [] ≢ []

-- the references of a batch to pages of the shard, in order
abbrev pub part_of_batch : ℕ → ℕ → List Reference → List Reference
part_of_batch shards shard batch = filter (λ r. nat_eq (shard_of shards r.page) shard) batch

-- the entries of pages of the shard, in order
abbrev pub part_of_entries : ℕ → ℕ → List Entry → List Entry
part_of_entries shards shard es = filter (λ e. nat_eq (shard_of shards e.page) shard) es

-- Parts that stand in one list, one behind the other

-- the parts that end at these places, of which the first begins at this one
abbrev pub parts_at : {A : Type 0} → ℕ → List ℕ → List A → List (List A)
parts_at start [] xs = []
parts_at start (end ∷ ends) xs = slice_range xs start end ∷ parts_at end ends xs

-- no part ends before it begins, and none behind the list, which has so many items
abbrev pub AreEnds : ℕ → List ℕ → ℕ → Type 0
AreEnds start [] long = start ≤ long
AreEnds start (end ∷ ends) long = (start ≤ end) × AreEnds end ends long

-- where the part of this number begins
abbrev pub start_of : List ℕ → ℕ → ℕ
start_of ends zero = 0
start_of ends (suc i) = slice_index ends i

-- how many items each shard has
pub record AreSizes {A : Type 0} (page : A → PageId) (count : ℕ) (xs : List A)
    (sizes : List ℕ) : Type 0 where
  pub size : length sizes ≡ count
  pub each : (i : ℕ) → i < count → slice_index sizes i ≡ length (own_items page count i xs)

-- how many items are of the shards before this one
abbrev pub count_before : {A : Type 0} → (A → PageId) → ℕ → ℕ → List A → ℕ
count_before page shards shard xs =
    length (filter (λ x. nat_lt (shard_of shards (page x)) shard) xs)

-- where the part of each shard begins: behind the items of the shards before
pub record AreStarts {A : Type 0} (page : A → PageId) (count : ℕ) (xs : List A)
    (starts : List ℕ) : Type 0 where
  pub size : length starts ≡ count
  pub each : (i : ℕ) → i < count → slice_index starts i ≡ count_before page count i xs
