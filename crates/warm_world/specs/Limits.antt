-- The limits of a setup.
use Rattle.std.specs.Prelude.{ℕ, ◌≤◌}

-- one of the numbers from 1 to most
pub record IsWithin (most n : ℕ) : Type 0 where
  pub from_one : 1 ≤ n
  pub in_range : n ≤ most
