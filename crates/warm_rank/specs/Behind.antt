-- A contest whose keys may lag behind the current keys of its slots.
use Rattle.std.specs.Prelude.{◌≡◌, ◌⊎◌, ℕ, false, List, length, set, Option, cond}
use Rattle.std.specs.Ordering.{is_gt}
use Rattle.std.specs.declared.cmp.Ordering.{Ordering}
use Rattle.warm_rank.specs.Slots.{key_at, set_first_cmp}

-- Each slot's key in the contest is at most its current key. No key is the greatest, so nothing is
-- said of a slot without a current key.
pub record IsBehind {K : Type 0} (cmp : K → K → Ordering)
    (contest current : List (Option K)) : Type 0 where
  pub count : length contest ≡ length current
  pub below : (slot : ℕ)
      → is_gt (set_first_cmp cmp (key_at contest slot) (key_at current slot)) ≡ false

-- the keys, with this one at a slot if it is less than the slot's
abbrev pub lowered : {K : Type 0} → (K → K → Ordering) → List (Option K) → ℕ → Option K
    → List (Option K)
lowered cmp keys slot key =
    cond (is_gt (set_first_cmp cmp (key_at keys slot) key)) (set keys slot key) keys

-- some slots of the contest were given their current keys, and the others keep theirs
pub record AreRepaired {K : Type 0} (contest current repaired : List (Option K)) : Type 0 where
  pub count : length repaired ≡ length contest
  pub each : (slot : ℕ) → (key_at repaired slot ≡ key_at contest slot)
      ⊎ (key_at repaired slot ≡ key_at current slot)
