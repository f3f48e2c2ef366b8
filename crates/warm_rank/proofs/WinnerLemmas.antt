-- A winner tree keeps its matches played, and its root comes first.
use Rattle.std.proofs.Common.{is_some, ◌-◌, ◌≡◌, ◌≢◌, ℕ, zero, suc, ◌+◌, ◌*◌, ◌/◌, ◌<◌, ◌≤◌, true, false, cond, List, [], ◌∷◌, length, get_or, set, sym, ap, refl, ◌∙◌, subst, Option, Some, None, inl, inr, ◌⊎◌, arith, get_or-set_same, get_or-set_other}
use Rattle.std.specs.Option.{IsSome}
use Rattle.std.specs.Cmp.{IsTotalOrder}
use Rattle.std.specs.Cmp.Lexicographic.{options_total}
use Rattle.std.specs.Ordering.{is_gt, nat_cmp, ordering_then, ordering_reverse}
use Rattle.std.specs.declared.cmp.Ordering.{Ordering}
use Rattle.std.specs.declared.cmp.Ordering.TheVariants.{Less, Equal, Greater}
use Rattle.std.proofs.lemmas.Cmp.{tied_itself, then_total, on_total, back_total, nat_cmp_total, ranked}
use Rattle.std.proofs.lemmas.List.{length-set}
use Rattle.std.proofs.lemmas.Bool.{cases_eq, cases_lt}
use Rattle.warm_stamps.proofs.DistinctLemmas.{by_cases}
use Rattle.warm_stamps.proofs.StampLemmas.{both_tie}
use Rattle.warm_rank.specs.Slots.{set_first_cmp, key_at, slot_cmp, IsLeast}
use Rattle.warm_rank.proofs.VacantLemmas.{none_there}
use Rattle.warm_rank.specs.WinnerTree.{winner, IsPlayed, HasLeaves, IsTree, halved_times, IsAbove, IsPlayedBut}
use Rattle.warm_rank.specs.WinnerTree.{IsStaleAt}

-- ---- halves

half_even : (j : ℕ) → 2 * j / 2 ≡ j
half_even j = omega arith

half_odd : (j : ℕ) → (2 * j + 1) / 2 ≡ j
half_odd j = omega arith

below_half : (j : ℕ) → (2 * (j / 2) ≡ j) ⊎ (2 * (j / 2) + 1 ≡ j)
below_half j = elim (cases_eq (2 * (j / 2)) j) [ inl e ↦ inl e | inr ne ↦ inr (omega arith) ]

-- ---- above a node

halved-half : (k x : ℕ) → halved_times k (x / 2) ≡ halved_times k x / 2
halved-half zero x = refl
halved-half (suc k) x = halved-half k (x / 2)

halved-zero : (k : ℕ) → halved_times k 0 ≡ 0
halved-zero zero = refl
halved-zero (suc k) = halved-zero k

above_child : (x c : ℕ) → (c ≡ x) ⊎ IsAbove x c → IsAbove x (c / 2)
above_child x c (inl e) = (0, ap (λ t. t / 2) (sym e))
above_child x c (inr above) = (suc above.0, halved-half above.0 (x / 2) ∙ ap (λ t. t / 2) above.1)

above_even : (x j : ℕ) → (2 * j ≡ x) ⊎ IsAbove x (2 * j) → IsAbove x j
above_even x j over = subst (IsAbove x) (half_even j) (above_child x (2 * j) over)

above_odd : (x j : ℕ) → (2 * j + 1 ≡ x) ⊎ IsAbove x (2 * j + 1) → IsAbove x j
above_odd x j over = subst (IsAbove x) (half_odd j) (above_child x (2 * j + 1) over)

above_step : (x j k : ℕ) → halved_times k (x / 2) ≡ j → (j ≡ x / 2 → ⊥) → IsAbove (x / 2) j
above_step x j zero is ne = absurd (ne (sym is))
above_step x j (suc k) is ne = (k, is)

-- node c is on the path from the leaf to the root
abbrev pub IsOnPath : ℕ → ℕ → Type 0
IsOnPath leaf c = (k : ℕ) × (halved_times k leaf ≡ c)

on_path : (leaf c : ℕ) → (c ≡ leaf) ⊎ IsAbove leaf c → IsOnPath leaf c
on_path leaf c (inl e) = (0, sym e)
on_path leaf c (inr above) = (suc above.0, above.1)

pub path_up : (leaf c : ℕ) → IsOnPath leaf c → IsOnPath leaf (c / 2)
path_up leaf c path = (suc path.0, halved-half path.0 leaf ∙ ap (λ t. t / 2) path.1)

halved_le : (k x : ℕ) → halved_times k x ≤ x
halved_le zero x = omega arith
halved_le (suc k) x = let rest : halved_times k (x / 2) ≤ x / 2 = halved_le k (x / 2) in omega (arith, rest)

-- two nodes of one path under one node are equal
one_child : (x c d : ℕ) → 0 < c / 2 → c / 2 ≡ d / 2 → (k m : ℕ) → halved_times k x ≡ c
    → halved_times m x ≡ d
    → c ≡ d
one_child x c d some same zero zero is_c is_d = sym is_c ∙ is_d
one_child x c d some same zero (suc m) is_c is_d = let le : halved_times m (x / 2) ≤ x / 2 = halved_le m (x / 2) in absurd (omega (arith, le, is_c, is_d, same, some))
one_child x c d some same (suc k) zero is_c is_d = let le : halved_times k (x / 2) ≤ x / 2 = halved_le k (x / 2) in absurd (omega (arith, le, is_c, is_d, same, some))
one_child x c d some same (suc k) (suc m) is_c is_d = one_child (x / 2) c d some same k m is_c is_d

-- a node that changes keeps the leaves
pub played_shape : (n : ℕ) (nodes : List ℕ) → HasLeaves n nodes → (p w : ℕ) → p < n → w < n
    → HasLeaves n (set nodes p w)
played_shape n nodes shape p w lt below = record {
  some = shape.some;
  few = shape.few;
  size = length-set nodes p w ∙ shape.size;
  leaves = λ s in_range. let ne : n + s ≢ p = omega arith in get_or-set_other nodes p (n + s) w 0 ne ∙ shape.leaves s in_range;
  in_range = λ j high. elim (cases_eq j p) [
    | inl e ↦ let room : p < length nodes = omega (arith, shape.size) in let is : get_or (set nodes p w) j 0 ≡ w = ap (λ t. get_or (set nodes p w) t 0) e ∙ get_or-set_same nodes p w 0 room in subst (λ t. t < n) (sym is) below
    | inr ne ↦ subst (λ t. t < n) (sym (get_or-set_other nodes p j w 0 ne)) (shape.in_range j high)
  ];
}

-- ---- the leaves

pub record HasLeavesBelow (n : ℕ) (nodes : List ℕ) (next : ℕ) : Type 0 where
  pub size : length nodes ≡ 2 * n
  pub leaves : (s : ℕ) → s < next → get_or nodes (n + s) 0 ≡ s
  pub in_range : (j : ℕ) → j < 2 * n → get_or nodes j 0 < n

pub read_at : (nodes : List ℕ) (i x : ℕ) → x ≡ get_or nodes i x → i < length nodes
    → x ≡ get_or nodes i 0
read_at nodes i x is lt = is ∙ any_default nodes i x 0 lt
  where
    any_default : (xs : List ℕ) (i d e : ℕ) → i < length xs → get_or xs i d ≡ get_or xs i e
    any_default [] i d e lt = absurd (omega arith)
    any_default (x ∷ xs) zero d e lt = refl
    any_default (x ∷ xs) (suc i) d e lt = any_default xs i d e (omega arith)

-- what is read at a node is a slot
pub read_below : (n : ℕ) (nodes : List ℕ) → HasLeaves n nodes → (i x : ℕ) → i < 2 * n
    → x ≡ get_or nodes i x → x < n
read_below n nodes shape i x lt is = subst (λ t. t < n) (sym (read_at nodes i x is (omega (arith, shape.size, lt)))) (shape.in_range i lt)

module _ {K : Type 0} (cmp : K → K → Ordering) where
  -- ---- two slots

  winner_is : (keys : List (Option K)) (a b : ℕ)
      → (winner cmp keys a b ≡ a) ⊎ (winner cmp keys a b ≡ b)
  winner_is keys a b = elim (is_gt (slot_cmp cmp keys a b)) as (λ t. (cond t b a ≡ a) ⊎ (cond t b a ≡ b)) [ true ↦ inr refl | false ↦ inl refl ]

  pub winner_below : (keys : List (Option K)) (a b n : ℕ) → a < n → b < n → winner cmp keys a b < n
  winner_below keys a b n below_a below_b = elim (winner_is keys a b) [ inl e ↦ omega (arith, e) | inr e ↦ omega (arith, e) ]

  -- ---- a changed key

  -- a node that holds a slot is its leaf, or stands above it
  holds_slot : (keys : List (Option K)) (nodes : List ℕ) → IsTree cmp keys nodes → (slot fuel j : ℕ)
      → 2 * length keys ≤ j + fuel → 0 < j → j < 2 * length keys → get_or nodes j 0 ≡ slot
      → (j ≡ length keys + slot) ⊎ IsAbove (length keys + slot) j
  holds_slot keys nodes tree slot zero j enough low high is = absurd (omega arith)
  holds_slot keys nodes tree slot (suc fuel) j enough low high is = elim (cases_lt j (length keys)) [
    | inl inner ↦
        let played : get_or nodes j 0 ≡ winner cmp keys (get_or nodes (2 * j) 0) (get_or nodes (2 * j + 1) 0) = tree.played j low inner in
        let enough_even : 2 * length keys ≤ 2 * j + fuel = omega arith in
        let enough_odd : 2 * length keys ≤ 2 * j + 1 + fuel = omega arith in
        elim (winner_is keys (get_or nodes (2 * j) 0) (get_or nodes (2 * j + 1) 0)) [
          | inl first ↦ inr (above_even _ j (holds_slot keys nodes tree slot fuel (2 * j) enough_even (omega arith) (omega arith) (sym first ∙ sym played ∙ is)))
          | inr second ↦ inr (above_odd _ j (holds_slot keys nodes tree slot fuel (2 * j + 1) enough_odd (omega arith) (omega arith) (sym second ∙ sym played ∙ is)))
        ]
    | inr leaf ↦
        let s : ℕ = j - length keys in
        let back : length keys + s ≡ j = omega arith in
        let below : s < length keys = omega arith in
        let same : s ≡ slot = sym (tree.shape.leaves s below) ∙ ap (λ t. get_or nodes t 0) back ∙ is in
        inl (sym back ∙ ap (λ t. length keys + t) same)
  ]

  winner_apart : (keys : List (Option K)) (slot : ℕ) (key : Option K) (a b : ℕ) → a ≢ slot
      → b ≢ slot → winner cmp (set keys slot key) a b ≡ winner cmp keys a b
  winner_apart keys slot key a b na nb =
      ap (λ x. cond (is_gt (ordering_then (set_first_cmp cmp x (key_at (set keys slot key) b)) (nat_cmp a b))) b a) (get_or-set_other keys slot a key None na)
      ∙ ap (λ y. cond (is_gt (ordering_then (set_first_cmp cmp (key_at keys a) y) (nat_cmp a b))) b a) (get_or-set_other keys slot b key None nb)

  -- leaves the matches played but those above its leaf
  pub changed_key : (keys : List (Option K)) (nodes : List ℕ) → IsTree cmp keys nodes
      → (slot : ℕ) (key : Option K) → slot < length keys
      → IsPlayedBut cmp (set keys slot key) nodes (length keys + slot)
  changed_key keys nodes tree slot key lt j low high =
      let inner : j < length keys = subst (λ n. j < n) (length-set keys slot key) high in
      let enough_even : 2 * length keys ≤ 2 * j + 2 * length keys = omega arith in
      let enough_odd : 2 * length keys ≤ 2 * j + 1 + 2 * length keys = omega arith in
      elim (cases_eq (get_or nodes (2 * j) 0) slot) [
        | inl e ↦ inr (above_even _ j (holds_slot keys nodes tree slot (2 * length keys) (2 * j) enough_even (omega arith) (omega arith) e))
        | inr na ↦ elim (cases_eq (get_or nodes (2 * j + 1) 0) slot) [
          | inl e ↦ inr (above_odd _ j (holds_slot keys nodes tree slot (2 * length keys) (2 * j + 1) enough_odd (omega arith) (omega arith) e))
          | inr nb ↦ inl (tree.played j low inner ∙ sym (winner_apart keys slot key _ _ na nb))
        ]
      ]

  -- ---- a match played

  winner_same : (keys : List (Option K)) (a b x y : ℕ) → a ≡ x → b ≡ y
      → winner cmp keys a b ≡ winner cmp keys x y
  winner_same keys a b x y ax yb = ap (λ t. winner cmp keys t b) ax ∙ ap (λ t. winner cmp keys x t) yb

  still_played : (keys : List (Option K)) (nodes : List ℕ) (p w j : ℕ) → j ≢ p → 2 * j ≢ p
      → 2 * j + 1 ≢ p → IsPlayed cmp keys nodes j → IsPlayed cmp keys (set nodes p w) j
  still_played keys nodes p w j nj na nb played =
      get_or-set_other nodes p j w 0 nj ∙ played ∙ winner_same keys _ _ _ _ (sym (get_or-set_other nodes p (2 * j) w 0 na)) (sym (get_or-set_other nodes p (2 * j + 1) w 0 nb))

  abbrev pub match_at : List (Option K) → List ℕ → ℕ → ℕ
  match_at keys nodes p = winner cmp keys (get_or nodes (2 * p) 0) (get_or nodes (2 * p + 1) 0)

  now_played : (keys : List (Option K)) (nodes : List ℕ) (p : ℕ) → 0 < p → p < length nodes
      → IsPlayed cmp keys (set nodes p (match_at keys nodes p)) p
  now_played keys nodes p low lt =
      let na : 2 * p ≢ p = omega arith in
      let nb : 2 * p + 1 ≢ p = omega arith in
      let w : ℕ = match_at keys nodes p in
      get_or-set_same nodes p w 0 lt ∙ winner_same keys _ _ _ _ (sym (get_or-set_other nodes p (2 * p) w 0 na)) (sym (get_or-set_other nodes p (2 * p + 1) w 0 nb))

  pub match_in_range : (keys : List (Option K)) (nodes : List ℕ) → HasLeaves (length keys) nodes
      → (p : ℕ) → p < length keys → match_at keys nodes p < length keys
  match_in_range keys nodes shape p lt = winner_below keys _ _ _ (shape.in_range (2 * p) (omega arith)) (shape.in_range (2 * p + 1) (omega arith))

  -- one match further up
  pub play_step : (keys : List (Option K)) (nodes : List ℕ) (node : ℕ)
      → HasLeaves (length keys) nodes → 1 < node → node < 2 * length keys
      → IsPlayedBut cmp keys nodes node
      → IsPlayedBut cmp keys (set nodes (node / 2) (match_at keys nodes (node / 2))) (node / 2)
  play_step keys nodes node shape low high rest j jlow jhigh =
      let p : ℕ = node / 2 in
      let plow : 0 < p = omega arith in
      let phigh : p < length nodes = omega (arith, shape.size) in
      elim (cases_eq j p) [
        | inl e ↦ inl (subst (λ t. IsPlayed cmp keys (set nodes p (match_at keys nodes p)) t) (sym e) (now_played keys nodes p plow phigh))
        | inr ne ↦ elim (cases_eq (2 * j) p) [
          | inl e ↦ inr (above_even p j (inl e))
          | inr na ↦ elim (cases_eq (2 * j + 1) p) [
            | inl e ↦ inr (above_odd p j (inl e))
            | inr nb ↦ elim (rest j jlow jhigh) [
              | inl played ↦ inl (still_played keys nodes p (match_at keys nodes p) j ne na nb played)
              | inr above ↦ inr (above_step node j above.0 above.1 ne)
            ]
          ]
        ]
      ]

  -- none is left above the root
  pub played_out : (keys : List (Option K)) (nodes : List ℕ) (node : ℕ)
      → HasLeaves (length keys) nodes → node ≤ 1 → IsPlayedBut cmp keys nodes node
      → IsTree cmp keys nodes
  played_out keys nodes node shape low rest = record {
    shape = shape;
    played = λ j jlow jhigh. elim (rest j jlow jhigh) [
      | inl played ↦ played
      | inr above ↦
          let half : node / 2 ≡ 0 = omega arith in
          let gone : j ≡ 0 = sym above.1 ∙ ap (halved_times above.0) half ∙ halved-zero above.0 in
          absurd (omega arith)
    ];
  }

  -- ---- a match that stays

  module _ (keys : List (Option K)) (nodes : List ℕ) (tree : IsTree cmp keys nodes) (slot : ℕ)
      (lt : slot < length keys) where
    -- of the nodes under one node, that which holds the slot is on its path
    path_holds : (p c : ℕ) → IsOnPath (length keys + slot) p → 0 < p / 2 → c / 2 ≡ p / 2
        → c < 2 * length keys → get_or nodes c 0 ≡ slot → get_or nodes p 0 ≡ slot
    path_holds p c path some same high holds =
        let low : 0 < c = omega (arith, some, same) in
        let enough : 2 * length keys ≤ c + 2 * length keys = omega arith in
        let there : IsOnPath (length keys + slot) c = on_path (length keys + slot) c (holds_slot keys nodes tree slot (2 * length keys) c enough low high holds) in
        let some_c : 0 < c / 2 = omega (arith, some, same) in
        ap (λ t. get_or nodes t 0) (sym (one_child (length keys + slot) c p some_c same there.0 path.0 there.1 path.1)) ∙ holds

    child_holds : (p : ℕ) → IsOnPath (length keys + slot) p → 0 < p / 2
        → get_or nodes (p / 2) 0 ≡ slot → get_or nodes p 0 ≡ slot
    child_holds p path some holds =
        let le : halved_times path.0 (length keys + slot) ≤ length keys + slot = halved_le path.0 (length keys + slot) in
        let inner : p / 2 < length keys = omega (arith, le, path.1, lt) in
        let played : get_or nodes (p / 2) 0 ≡ winner cmp keys (get_or nodes (2 * (p / 2)) 0) (get_or nodes (2 * (p / 2) + 1) 0) = tree.played (p / 2) some inner in
        elim (winner_is keys (get_or nodes (2 * (p / 2)) 0) (get_or nodes (2 * (p / 2) + 1) 0)) [
          | inl first ↦ path_holds p (2 * (p / 2)) path some (half_even (p / 2)) (omega (arith, inner)) (sym first ∙ sym played ∙ holds)
          | inr second ↦ path_holds p (2 * (p / 2) + 1) path some (half_odd (p / 2)) (omega (arith, inner)) (sym second ∙ sym played ∙ holds)
        ]

    -- what is under a node above p, and holds the slot, is p or above it; then p holds the slot too
    holds_below : (k p j c : ℕ) → IsOnPath (length keys + slot) p → halved_times k (p / 2) ≡ j
        → 0 < j
        → c / 2 ≡ j → c < 2 * length keys → get_or nodes c 0 ≡ slot → get_or nodes p 0 ≡ slot
    holds_below zero p j c path is some half high holds = path_holds p c path (omega (arith, is, some)) (half ∙ sym is) high holds
    holds_below (suc k) p j c path is some half high holds =
        let le : halved_times k (p / 2 / 2) ≤ p / 2 / 2 = halved_le k (p / 2 / 2) in
        let low : 0 < p / 2 = omega (arith, le, is, some) in
        child_holds p path low (holds_below k (p / 2) j c (path_up (length keys + slot) p path) is some half high holds)

    -- if the match at p keeps its winner, which is not the slot, all matches above it stay played
    pub stays_played : (key : Option K) (new : List ℕ) (p : ℕ) → IsOnPath (length keys + slot) p
        → get_or nodes p 0 ≢ slot → ((j : ℕ) → j < 2 * p → get_or new j 0 ≡ get_or nodes j 0)
        → HasLeaves (length (set keys slot key)) new → IsPlayedBut cmp (set keys slot key) new p
        → IsTree cmp (set keys slot key) new
    stays_played key new p path other same shape rest = record {
      shape = shape;
      played = λ j low high. elim (rest j low high) [
        | inl played ↦ played
        | inr above ↦
            let inner : j < length keys = subst (λ n. j < n) (length-set keys slot key) high in
            let le : halved_times above.0 (p / 2) ≤ p / 2 = halved_le above.0 (p / 2) in
            let under : j ≤ p / 2 = omega (arith, le, above.1) in
            let na : get_or nodes (2 * j) 0 ≢ slot = λ e. other (holds_below above.0 p j (2 * j) path above.1 low (half_even j) (omega (arith, inner)) e) in
            let nb : get_or nodes (2 * j + 1) 0 ≢ slot = λ e. other (holds_below above.0 p j (2 * j + 1) path above.1 low (half_odd j) (omega (arith, inner)) e) in
            same j (omega (arith, under, low))
            ∙ tree.played j low inner
            ∙ sym (winner_apart keys slot key _ _ na nb)
            ∙ winner_same (set keys slot key) _ _ _ _ (sym (same (2 * j) (omega (arith, under, low)))) (sym (same (2 * j + 1) (omega (arith, under, low))))
      ];
    }

  -- ---- the matches above a changed key

  -- where they begin
  pub changed_leaf : (keys : List (Option K)) (nodes : List ℕ) (slot : ℕ)
      → IsStaleAt cmp keys nodes slot → slot < length keys
      → record {
        shape : HasLeaves (length keys) nodes;
        rest : IsPlayedBut cmp keys nodes (length keys + slot);
      }
  changed_leaf keys nodes slot changed lt =
      let old : List (Option K) = changed.0 in
      let key : Option K = changed.1 in
      let tree : IsTree cmp old nodes = changed.2 in
      let is : keys ≡ set old slot key = changed.3 in
      let count : length keys ≡ length old = ap length is ∙ length-set old slot key in
      record {
        shape = subst (λ n. HasLeaves n nodes) (sym count) tree.shape;
        rest = subst (λ ks. IsPlayedBut cmp ks nodes (length keys + slot)) (sym is) (subst (λ n. IsPlayedBut cmp (set old slot key) nodes (n + slot)) (sym count) (changed_key old nodes tree slot key (subst (λ n. slot < n) count lt)));
      }

  -- where they end early
  pub settled : (keys : List (Option K)) (first nodes : List ℕ) (slot node before w : ℕ)
      → IsStaleAt cmp keys first slot → slot < length keys → HasLeaves (length keys) nodes
      → IsPlayedBut cmp keys nodes node → IsOnPath (length keys + slot) node
      → ((j : ℕ) → j < node → get_or nodes j 0 ≡ get_or first j 0) → 1 < node
      → node < 2 * length keys → before ≡ get_or nodes (node / 2) before
      → w ≡ match_at keys nodes (node / 2) → (w ≡ before) × (before ≢ slot)
      → IsTree cmp keys (set nodes (node / 2) w)
  settled keys first nodes slot node before w changed lt shape rest path same low high is_before is_match stays =
      let p : ℕ = node / 2 in
      let inner : p < length keys = omega (arith, high) in
      let under : p < node = omega (arith, low) in
      let room : p < length nodes = omega (arith, shape.size, high) in
      let old : List (Option K) = changed.0 in
      let key : Option K = changed.1 in
      let is : keys ≡ set old slot key = changed.3 in
      let count : length keys ≡ length old = ap length is ∙ length-set old slot key in
      let new : List ℕ = set nodes p w in
      let was : before ≡ get_or first p 0 = read_at nodes p before is_before room ∙ same p under in
      let new_shape : HasLeaves (length keys) new = played_shape (length keys) nodes shape p w inner (subst (λ t. t < length keys) (sym is_match) (match_in_range keys nodes shape p inner)) in
      let new_rest : IsPlayedBut cmp keys new p = subst (λ t. IsPlayedBut cmp keys (set nodes p t) p) (sym is_match) (play_step keys nodes node shape low high rest) in
      let new_same : (j : ℕ) → j < 2 * p → get_or new j 0 ≡ get_or first j 0 =
      λ j lower. elim (cases_eq j p) [
        | inl e ↦ ap (λ t. get_or new t 0) e ∙ get_or-set_same nodes p w 0 room ∙ stays.0 ∙ was ∙ ap (λ t. get_or first t 0) (sym e)
        | inr ne ↦ get_or-set_other nodes p j w 0 ne ∙ same j (omega (arith, lower))
      ] in
      subst (λ ks. IsTree cmp ks new) (sym is) (stays_played old first changed.2 slot (subst (λ n. slot < n) count lt) key new p
      (subst (λ n. IsOnPath (n + slot) p) count (path_up (length keys + slot) node path)) (λ e. stays.1 (was ∙ e)) new_same
      (subst (λ ks. HasLeaves (length ks) new) is new_shape) (subst (λ ks. IsPlayedBut cmp ks new p) is new_rest))

  -- ---- all matches, the last first

  abbrev pub ArePlayedFrom : List (Option K) → List ℕ → ℕ → Type 0
  ArePlayedFrom keys nodes n = (j : ℕ) → n ≤ j → j < length keys → IsPlayed cmp keys nodes j

  pub play_next : (keys : List (Option K)) (nodes : List ℕ) (p : ℕ) → HasLeaves (length keys) nodes
      → 0 < p → p < length keys → ArePlayedFrom keys nodes (p + 1)
      → ArePlayedFrom keys (set nodes p (match_at keys nodes p)) p
  play_next keys nodes p shape low high rest j jlow jhigh = elim (cases_eq j p) [
    | inl e ↦ let lt : p < length nodes = omega (arith, shape.size) in subst (λ t. IsPlayed cmp keys (set nodes p (match_at keys nodes p)) t) (sym e) (now_played keys nodes p low lt)
    | inr ne ↦ still_played keys nodes p (match_at keys nodes p) j ne (omega arith) (omega arith) (rest j (omega arith) jhigh)
  ]

  -- what was read and played is the match
  pub match_read : (keys : List (Option K)) (nodes : List ℕ) (p a b w : ℕ)
      → HasLeaves (length keys) nodes → p < length keys → a ≡ get_or nodes (2 * p) a
      → b ≡ get_or nodes (2 * p + 1) b → w ≡ winner cmp keys a b → w ≡ match_at keys nodes p
  match_read keys nodes p a b w shape lt is_a is_b is =
      let in_a : 2 * p < length nodes = omega (arith, shape.size) in
      let in_b : 2 * p + 1 < length nodes = omega (arith, shape.size) in
      is ∙ winner_same keys _ _ _ _ (read_at nodes (2 * p) a is_a in_a) (read_at nodes (2 * p + 1) b is_b in_b)

module _ {K : Type 0} (cmp : K → K → Ordering) (total : IsTotalOrder cmp) where
  -- ---- the order of slots

  pub slot_total : (keys : List (Option K)) → IsTotalOrder (slot_cmp cmp keys)
  slot_total keys = then_total (on_total (key_at keys) (back_total (options_total (back_total total)))) nat_cmp_total

  slot_same : (keys : List (Option K)) (a b : ℕ) → slot_cmp cmp keys a b ≡ Equal → a ≡ b
  slot_same keys a b e = ranked a b Equal (sym (both_tie (set_first_cmp cmp (key_at keys a) (key_at keys b)) (nat_cmp a b) e).1)

  -- ---- winners

  -- a comes before b, or is b
  abbrev pub IsNotAfter : List (Option K) → ℕ → ℕ → Type 0
  IsNotAfter keys a b = is_gt (slot_cmp cmp keys a b) ≡ false

  not_after_trans : (keys : List (Option K)) (a b c : ℕ) → IsNotAfter keys a b → IsNotAfter keys b c
      → IsNotAfter keys a c
  not_after_trans keys a b c ab bc = by_cases (slot_cmp cmp keys a b) _
      (λ less. by_cases (slot_cmp cmp keys b c) _
      (λ less'. ap is_gt ((slot_total keys).trans a b c less less'))
      (λ tied. subst (λ t. IsNotAfter keys a t) (slot_same keys b c tied) ab)
      (λ more. let no : true ≡ false = sym (ap is_gt more) ∙ bc in absurd (cc)))
      (λ tied. subst (λ t. IsNotAfter keys t c) (sym (slot_same keys a b tied)) bc)
      (λ more. let no : true ≡ false = sym (ap is_gt more) ∙ ab in absurd (cc))

  winner_first : (keys : List (Option K)) (a b : ℕ) → IsNotAfter keys (winner cmp keys a b) a
  winner_first keys a b = by_cases (slot_cmp cmp keys a b) _
      (λ less. rw less (ap is_gt (tied_itself (slot_total keys) a)))
      (λ tied. rw tied (ap is_gt (tied_itself (slot_total keys) a)))
      (λ more. rw more (ap is_gt ((slot_total keys).antisymm b a ∙ ap ordering_reverse more)))

  winner_second : (keys : List (Option K)) (a b : ℕ) → IsNotAfter keys (winner cmp keys a b) b
  winner_second keys a b = by_cases (slot_cmp cmp keys a b) _
      (λ less. rw less (ap is_gt less))
      (λ tied. rw tied (ap is_gt tied))
      (λ more. rw more (ap is_gt (tied_itself (slot_total keys) b)))

  -- ---- the root comes first

  root_first : (keys : List (Option K)) (nodes : List ℕ) → IsTree cmp keys nodes → (fuel j : ℕ)
      → j ≤ fuel → 0 < j → j < 2 * length keys
      → IsNotAfter keys (get_or nodes 1 0) (get_or nodes j 0)
  root_first keys nodes tree zero j le some below = absurd (omega arith)
  root_first keys nodes tree (suc fuel) j le some below = elim (cases_eq 1 j) [
    | inl e ↦ subst (λ t. IsNotAfter keys (get_or nodes 1 0) (get_or nodes t 0)) e (ap is_gt (tied_itself (slot_total keys) (get_or nodes 1 0)))
    | inr ne ↦
        let p : ℕ = j / 2 in
        let low : 0 < p = omega arith in
        let high : p < length keys = omega arith in
        let less : p ≤ fuel = omega arith in
        let under : p < 2 * length keys = omega arith in
        let a : ℕ = get_or nodes (2 * p) 0 in
        let b : ℕ = get_or nodes (2 * p + 1) 0 in
        let up : IsNotAfter keys (get_or nodes 1 0) (get_or nodes p 0) = root_first keys nodes tree fuel p less low under in
        let is : get_or nodes p 0 ≡ winner cmp keys a b = tree.played p low high in
        let here : IsNotAfter keys (winner cmp keys a b) (get_or nodes j 0) = elim (below_half j) [
          | inl e ↦ subst (λ t. IsNotAfter keys (winner cmp keys a b) (get_or nodes t 0)) e (winner_first keys a b)
          | inr e ↦ subst (λ t. IsNotAfter keys (winner cmp keys a b) (get_or nodes t 0)) e (winner_second keys a b)
        ] in
        not_after_trans keys _ (get_or nodes p 0) _ up (subst (λ w. IsNotAfter keys w (get_or nodes j 0)) (sym is) here)
  ]

  root_slot : (keys : List (Option K)) (nodes : List ℕ) → IsTree cmp keys nodes → (t : ℕ)
      → t < length keys → IsNotAfter keys (get_or nodes 1 0) t
  root_slot keys nodes tree t lt =
      let some : 0 < length keys = tree.shape.some in
      let low : 0 < length keys + t = omega arith in
      let high : length keys + t < 2 * length keys = omega arith in
      subst (IsNotAfter keys (get_or nodes 1 0)) (tree.shape.leaves t lt) (root_first keys nodes tree (length keys + t) (length keys + t) (omega arith) low high)

  pub root_in_range : (keys : List (Option K)) (nodes : List ℕ) → IsTree cmp keys nodes
      → get_or nodes 1 0 < length keys
  root_in_range keys nodes tree = let some : 0 < length keys = tree.shape.some in tree.shape.in_range 1 (omega arith)

  -- the order of slots of which the first has no key
  none_after : (keys : List (Option K)) (a t : ℕ) → key_at keys a ≡ None → IsNotAfter keys a t
      → key_at keys t ≡ None
  none_after keys a t none first = cases (key_at keys t) refl
    where
      cases : (k : Option K) → key_at keys t ≡ k → key_at keys t ≡ None
      cases None e = e
      cases (Some k) e =
          let more : slot_cmp cmp keys a t ≡ Greater = ap (λ x. ordering_then (set_first_cmp cmp x (key_at keys t)) (nat_cmp a t)) none ∙ ap (λ y. ordering_then (set_first_cmp cmp None y) (nat_cmp a t)) e in
          let no : true ≡ false = sym (ap is_gt more) ∙ first in
          absurd (cc)

  pub least_none : (keys : List (Option K)) (nodes : List ℕ) → IsTree cmp keys nodes
      → key_at keys (get_or nodes 1 0) ≡ None → IsLeast cmp keys None
  least_none keys nodes tree none t lt = none_after keys (get_or nodes 1 0) t none (root_slot keys nodes tree t lt)

  first_less : (keys : List (Option K)) (a t : ℕ) → t ≢ a → IsNotAfter keys a t
      → slot_cmp cmp keys a t ≡ Less
  first_less keys a t ne first = by_cases (slot_cmp cmp keys a t) _
      (λ less. less)
      (λ tied. absurd (ne (sym (slot_same keys a t tied))))
      (λ more. let no : true ≡ false = sym (ap is_gt more) ∙ first in absurd (cc))

  pub least_some : (keys : List (Option K)) (nodes : List ℕ) → IsTree cmp keys nodes
      → IsSome (key_at keys (get_or nodes 1 0)) → IsLeast cmp keys (Some (get_or nodes 1 0))
  least_some keys nodes tree set_there = record {
    in_range = root_in_range keys nodes tree;
    is_set = set_there;
    first = λ t lt ne. first_less keys (get_or nodes 1 0) t ne (root_slot keys nodes tree t lt);
  }

  -- the root, as it is read
  pub root_read : (keys : List (Option K)) (nodes : List ℕ) → IsTree cmp keys nodes → (root : ℕ)
      → root ≡ get_or nodes 1 root → root ≡ get_or nodes 1 0
  root_read keys nodes tree root is = let some : 0 < length keys = tree.shape.some in let lt : 1 < length nodes = omega (arith, tree.shape.size) in read_at nodes 1 root is lt

  -- the least slot, from the root and its key as they are read
  pub least_read : (keys : List (Option K)) (nodes : List ℕ) → IsTree cmp keys nodes → (root : ℕ)
      → root ≡ get_or nodes 1 root
      → record {
        within : root < length keys;
        none : is_some (key_at keys root) ≡ false
            → IsLeast cmp keys None;
        some : is_some (key_at keys root) ≡ true
            → IsLeast cmp keys (Some root);
      }
  least_read keys nodes tree root is =
      let root_is : root ≡ get_or nodes 1 0 = root_read keys nodes tree root is in
      record {
        within = subst (λ t. t < length keys) (sym root_is) (root_in_range keys nodes tree);
        none = λ e. least_none keys nodes tree (none_there _ (ap (λ t. is_some (key_at keys t)) (sym root_is) ∙ e));
        some = λ e. subst (λ t. IsLeast cmp keys (Some t)) (sym root_is) (least_some keys nodes tree (ap (λ t. is_some (key_at keys t)) (sym root_is) ∙ e));
      }
