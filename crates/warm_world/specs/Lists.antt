-- Numbers that count from 1, and two lists that agree item by item.
use Rattle.std.specs.Prelude.{◌≡◌, ℕ, ◌-◌, ◌<◌, ◌≤◌, List, length, slice_index_or}

-- one of the numbers from 1 to count
pub record IsNumber (number count : ℕ) : Type 0 where
  pub from_one : 0 < number
  pub in_range : number ≤ count

-- the index of the item of a number
abbrev pub index_of_number : ℕ → ℕ
index_of_number number = number - 1

-- two lists of one length, related item by item; the relation may depend on the index
pub record Pairwise {A B : Type 0} (R : ℕ → A → B → Type 0) (xs : List A) (ys : List B)
    : Type 0 where
  pub same_length : length xs ≡ length ys
  pub each : (i : ℕ) (a : A) (b : B) → i < length xs
      → R i (slice_index_or xs i a) (slice_index_or ys i b)
