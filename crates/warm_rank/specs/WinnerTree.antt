-- A winner tree: node 1 is the root, node j is the parent of nodes 2j and 2j + 1, and the last
-- nodes are the slots in order.
use Rattle.std.specs.Prelude.{◌≡◌, ◌⊎◌, ℕ, suc, zero, ◌+◌, ◌*◌, ◌/◌, ◌<◌, ◌≤◌, List, length, Option}
use Rattle.std.specs.Prelude.{set, slice_index, cond}
use Rattle.std.specs.Ordering.{is_gt}
use Rattle.std.specs.declared.cmp.Ordering.{Ordering}
use Rattle.warm_rank.specs.declared.TheConstants.{MAX_FRAMES}
use Rattle.warm_rank.specs.Slots.{slot_cmp}

-- of the slots a and b the one that comes first
abbrev pub winner : {K : Type 0} → (K → K → Ordering) → List (Option K) → ℕ → ℕ → ℕ
winner cmp keys a b = cond (is_gt (slot_cmp cmp keys a b)) b a

-- node j holds the winner of the two nodes below it
abbrev pub IsPlayed : {K : Type 0} → (K → K → Ordering) → List (Option K) → List ℕ → ℕ → Type 0
IsPlayed cmp keys nodes j = slice_index nodes j
    ≡ winner cmp keys (slice_index nodes (2 * j)) (slice_index nodes (2 * j + 1))

-- two nodes per slot, with the slots last
pub record HasLeaves (n : ℕ) (nodes : List ℕ) : Type 0 where
  pub some : 0 < n
  pub few : n ≤ MAX_FRAMES
  pub size : length nodes ≡ 2 * n
  pub leaves : (slot : ℕ) → slot < n → slice_index nodes (n + slot) ≡ slot
  pub in_range : (j : ℕ) → j < 2 * n → slice_index nodes j < n

-- a tree of matches over the slots' keys: two nodes per slot, with the slots last, and each match
-- played
pub record IsTree {K : Type 0} (cmp : K → K → Ordering) (keys : List (Option K))
    (nodes : List ℕ) : Type 0 where
  pub shape : HasLeaves (length keys) nodes
  pub played : (j : ℕ) → 0 < j → j < length keys → IsPlayed cmp keys nodes j

-- k halvings
abbrev pub halved_times : ℕ → ℕ → ℕ
halved_times zero x = x
halved_times (suc k) x = halved_times k (x / 2)

-- node j is an ancestor of node x
abbrev pub IsAbove : ℕ → ℕ → Type 0
IsAbove x j = (k : ℕ) × (halved_times k (x / 2) ≡ j)

-- every match is played except those at ancestors of node x
abbrev pub IsPlayedBut : {K : Type 0} → (K → K → Ordering) → List (Option K) → List ℕ → ℕ → Type 0
IsPlayedBut cmp keys nodes x = (j : ℕ) → 0 < j → j < length keys
    → IsPlayed cmp keys nodes j ⊎ IsAbove x j

-- the nodes were a valid tree before the key of this slot changed
abbrev pub IsStaleAt : {K : Type 0} → (K → K → Ordering) → List (Option K) → List ℕ → ℕ → Type 0
IsStaleAt {K} cmp keys nodes slot = (old : List (Option K)) × (key : Option K)
    × IsTree cmp old nodes × (keys ≡ set old slot key)
