-- The greatest items of a list, in any order.
use Rattle.std.specs.Prelude.{◌≡◌, ℕ, List, ◌∷◌, ◌++◌, length, IsPermutation}
use Rattle.std.specs.List.Sorted.{IsSplitAround}
use Rattle.std.specs.declared.cmp.Ordering.{Ordering}

-- top is n items of the list; the others are one item that is not above any of top, and items that
-- are not above that one
pub record AreGreatest {K : Type 0} (cmp : K → K → Ordering) (items : List K) (n : ℕ)
    (top : List K) : Type 0 where
  pub others : List K
  pub next : K
  pub parts : IsPermutation items (others ++ next ∷ top)
  pub split : IsSplitAround cmp others next top
  pub count : length top ≡ n
