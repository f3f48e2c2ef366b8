-- Items that are written to the places of their shards, one after the other.
use Rattle.std.proofs.Common.{◌≡◌, ◌≢◌, inl, inr, ℕ, zero, suc, ◌+◌, ◌<◌, ◌≤◌, List, [], ◌∷◌, ◌++◌, length, replicate, set, take, drop, get_or, refl, sym, ap, subst, ◌∙◌, arith}
use Rattle.std.specs.Prelude.{nat_eq, sum}
use Rattle.std.proofs.lemmas.Bool.{cases_eq, cases_lt, eq-eqb, le-ltb, lt-ltb, ne_eqb}
use Rattle.std.proofs.lemmas.List.{append-nil, get_or_append_left, get_or_push, get_or_read, get_or-replicate, get_or-set_other, get_or-set_same, length-append, length-replicate, length-set, length-take-le, length_push, take_all, take_more, take-append-drop}
use Rattle.std.proofs.lemmas.List.Elements.{filter-append}
use Rattle.std.proofs.lemmas.List.Sums.{sum_by_more}
use Rattle.warm_stamps.specs.declared.PageId.{PageId}
use Rattle.warm_visits.specs.Parts.{AreSizes, AreStarts, count_before, own_items}
use Rattle.warm_visits.specs.ShardNumbers.{shard_of}

module _ {A : Type 0} (page : A → PageId) (count : ℕ) where
  abbrev shard : A → ℕ
  shard x = shard_of count (page x)

  abbrev own : ℕ → List A → List A
  own i xs = own_items page count i xs

  abbrev before : ℕ → List A → ℕ
  before i xs = count_before page count i xs

  -- the shard of an item, as the code finds it
  pub shard_is : (s : ℕ) (p : PageId) (x : A) → s ≡ shard_of count p → p ≡ page x → s ≡ shard x
  shard_is s p x is named = is ∙ ap (shard_of count) named

  -- ---- the items of one shard

  one_own : (i : ℕ) (x : A) → shard x ≡ i → own i (x ∷ []) ≡ x ∷ []
  one_own i x is = rw (eq-eqb (shard x) i is) refl

  one_other : (i : ℕ) (x : A) → shard x ≢ i → own i (x ∷ []) ≡ []
  one_other i x other = rw (ne_eqb (shard x) i other) refl

  -- one item more
  pub own_gains : (i k : ℕ) (xs : List A) (x : A) → k < length xs → x ≡ get_or xs k x
      → shard x ≡ i → own i (take (k + 1) xs) ≡ own i (take k xs) ++ x ∷ []
  own_gains i k xs x lt at is =
      ap (own i) (take_more xs k x lt ∙ ap (λ y. take k xs ++ y ∷ []) (sym at))
      ∙ filter-append (λ y. nat_eq (shard y) i) (take k xs) (x ∷ [])
      ∙ ap (λ ys. own i (take k xs) ++ ys) (one_own i x is)

  pub own_stays : (i k : ℕ) (xs : List A) (x : A) → k < length xs → x ≡ get_or xs k x
      → shard x ≢ i → own i (take (k + 1) xs) ≡ own i (take k xs)
  own_stays i k xs x lt at other =
      ap (own i) (take_more xs k x lt ∙ ap (λ y. take k xs ++ y ∷ []) (sym at))
      ∙ filter-append (λ y. nat_eq (shard y) i) (take k xs) (x ∷ [])
      ∙ ap (λ ys. own i (take k xs) ++ ys) (one_other i x other)
      ∙ append-nil (own i (take k xs))

  -- no more among the first than among all
  own_below : (i k : ℕ) (xs : List A) → length (own i (take k xs)) ≤ length (own i xs)
  own_below i k xs =
      let parts : length (own i xs) ≡ length (own i (take k xs)) + length (own i (drop k xs)) =
      ap (λ ys. length (own i ys)) (sym (take-append-drop k xs))
      ∙ ap length (filter-append (λ y. nat_eq (shard y) i) (take k xs) (drop k xs))
      ∙ length-append (own i (take k xs)) (own i (drop k xs)) in
      omega (arith, parts)

  -- the sizes after one item more
  pub size_gains : (i k : ℕ) (xs : List A) (x : A) → k < length xs → x ≡ get_or xs k x
      → shard x ≡ i → length (own i (take (k + 1) xs)) ≡ length (own i (take k xs)) + 1
  size_gains i k xs x lt at is =
      ap length (own_gains i k xs x lt at is) ∙ length_push (own i (take k xs)) x

  -- ---- the items of the shards before

  pub before_more : (i : ℕ) (xs : List A) → before (suc i) xs ≡ before i xs + length (own i xs)
  before_more i [] = omega arith
  before_more i (x ∷ xs) =
      let rest = before_more i xs in
      elim (cases_lt (shard x) i) [
        | inl less ↦
            rw (lt-ltb (shard x) (suc i) (omega (arith, less)), lt-ltb (shard x) i less, ne_eqb (shard x) i (λ e. omega (arith, e, less)))
            (omega (arith, rest))
        | inr le ↦ elim (cases_eq (shard x) i) [
          | inl same ↦
              rw (lt-ltb (shard x) (suc i) (omega (arith, same)), le-ltb (shard x) i le, eq-eqb (shard x) i same)
              (omega (arith, rest))
          | inr other ↦
              rw (le-ltb (shard x) (suc i) (omega (arith, other, le)), le-ltb (shard x) i le, ne_eqb (shard x) i other)
              (omega (arith, rest))
        ]
      ]

  pub before_none : (xs : List A) → before 0 xs ≡ 0
  before_none [] = refl
  before_none (x ∷ xs) = rw (le-ltb (shard x) 0 (omega arith)) (before_none xs)

  before_rises : (i k : ℕ) (xs : List A) → i ≤ k → before i xs ≤ before k xs
  before_rises i zero xs le =
      let none : i ≡ 0 = omega arith in
      subst (λ n. before n xs ≤ before 0 xs) (sym none) (omega arith)
  before_rises i (suc k) xs le = elim (cases_eq i (suc k)) [
    | inl same ↦ subst (λ n. before n xs ≤ before (suc k) xs) (sym same) (omega arith)
    | inr other ↦
        let rest = before_rises i k xs (omega (arith, le, other)) in
        omega (arith, rest, before_more k xs)
  ]

  pub before_within : (i : ℕ) (xs : List A) → before i xs ≤ length xs
  before_within i [] = omega arith
  before_within i (x ∷ xs) =
      let rest = before_within i xs in
      elim (cases_lt (shard x) i) [
        | inl less ↦ rw (lt-ltb (shard x) i less) (omega (arith, rest))
        | inr le ↦ rw (le-ltb (shard x) i le) (omega (arith, rest))
      ]

  -- ---- sizes, and from them the starts

  pub sizes_none : (xs : List A) (sizes : List ℕ) → sizes ≡ replicate count 0
      → AreSizes page count (take 0 xs) sizes
  sizes_none xs sizes is = record {
    size = ap length is ∙ length-replicate count 0;
    each = λ i lt. ap (λ ns. get_or ns i 0) is ∙ get_or-replicate count i 0 0 lt;
  }

  pub sizes_more : (k s n : ℕ) (xs : List A) (x : A) (sizes : List ℕ)
      → AreSizes page count (take k xs) sizes → k < length xs → x ≡ get_or xs k x → s ≡ shard x
      → s < count → n ≡ get_or sizes s n → AreSizes page count (take (k + 1) xs) (set sizes s (n + 1))
  sizes_more k s n xs x sizes are lt at is below read =
      let here = get_or_read sizes s n (omega (arith, are.size, below)) read 0 in
      let mine : get_or (set sizes s (n + 1)) s 0 ≡ length (own s (take (k + 1) xs)) =
      get_or-set_same sizes s (n + 1) 0 (omega (arith, are.size, below))
      ∙ omega (arith, here, are.each s below, size_gains s k xs x lt at (sym is)) in
      record {
        size = length-set sizes s (n + 1) ∙ are.size;
        each = λ i less. elim (cases_eq i s) [
          | inl same ↦ subst (λ (m : ℕ). get_or (set sizes s (n + 1)) m 0 ≡ length (own m (take (k + 1) xs))) (sym same) mine
          | inr other ↦
              get_or-set_other sizes s i (n + 1) 0 other
              ∙ are.each i less
              ∙ ap length (sym (own_stays i k xs x lt at (λ e. other (sym e ∙ sym is))))
        ];
      }

  -- a size counts no more items than were read
  pub size_within : (k s n : ℕ) (xs : List A) (sizes : List ℕ) → AreSizes page count (take k xs) sizes
      → k ≤ length xs → s < count → n ≡ get_or sizes s n → n ≤ k
  size_within k s n xs sizes are le below read =
      let here = get_or_read sizes s n (omega (arith, are.size, below)) read 0 in
      omega (arith, here, are.each s below, before_more s (take k xs), before_within (suc s) (take k xs), length-take-le k xs le)

  sums_before : (i : ℕ) (xs : List A) (sizes : List ℕ) → AreSizes page count xs sizes → i ≤ count
      → sum (take i sizes) ≡ before i xs
  sums_before zero xs sizes are le = sym (before_none xs)
  sums_before (suc i) xs sizes are le =
      let one : suc i ≡ i + 1 = omega arith in
      let rest = sums_before i xs sizes are (omega (arith, le)) in
      let more = sum_by_more (λ x. x) sizes i 0 (omega (arith, le, are.size)) in
      let size = are.each i (omega (arith, le)) in
      ap (λ n. sum (take n sizes)) one ∙ more ∙ omega (arith, rest, size, before_more i xs)

  pub sum_within : (xs : List A) (sizes : List ℕ) → AreSizes page count xs sizes
      → sum sizes ≤ length xs
  sum_within xs sizes are =
      let all : sum sizes ≡ before count xs = ap sum (sym (take_all count sizes (omega (arith, are.size)))) ∙ sums_before count xs sizes are (omega arith) in
      omega (arith, all, before_within count xs)

  pub starts_are : (xs : List A) (sizes starts : List ℕ) → AreSizes page count xs sizes
      → length starts ≡ length sizes
      → ((i : ℕ) → i < length sizes → get_or starts i 0 ≡ sum (take i sizes))
      → AreStarts page count xs starts
  starts_are xs sizes starts are long each = record {
    size = long ∙ are.size;
    each = λ i lt. each i (omega (arith, lt, are.size)) ∙ sums_before i xs sizes are (omega (arith, lt));
  }

  -- ---- one item after the other

  -- after k items: those of each shard stand from its start on, and its next place is behind them
  pub record IsSorting (k : ℕ) (xs list : List A) (next : List ℕ) : Type 0 where
    pub long : length list ≡ length xs
    pub size : length next ≡ count
    pub place : (i : ℕ) → i < count → get_or next i 0 ≡ before i xs + length (own i (take k xs))
    pub held : (i j : ℕ) (d : A) → i < count → j < length (own i (take k xs))
        → get_or list (before i xs + j) d ≡ get_or (own i (take k xs)) j d

  pub sort_begins : (xs list : List A) (starts : List ℕ) → AreStarts page count xs starts
      → length list ≡ length xs → IsSorting 0 xs list starts
  sort_begins xs list starts are long = record {
    long = long;
    size = are.size;
    place = λ i lt. are.each i lt ∙ omega arith;
    held = λ i j d lt less. absurd (omega (arith, less));
  }

  -- the next item's place is its shard's own
  room : (i k : ℕ) (xs : List A) (x : A) → k < length xs → x ≡ get_or xs k x → shard x ≡ i
      → before i xs + length (own i (take k xs)) < before (suc i) xs
  room i k xs x lt at is =
      omega (arith, size_gains i k xs x lt at is, own_below i (k + 1) xs, before_more i xs)

  -- a place, as the code reads it
  place_is : (k s p : ℕ) (xs list : List A) (next : List ℕ) → IsSorting k xs list next → s < count
      → p ≡ get_or next s p → p ≡ before s xs + length (own s (take k xs))
  place_is k s p xs list next so below read =
      get_or_read next s p (omega (arith, so.size, below)) read 0 ∙ so.place s below

  pub place_within : (k s p : ℕ) (xs list : List A) (next : List ℕ) (x : A)
      → IsSorting k xs list next → k < length xs → x ≡ get_or xs k x → s ≡ shard x → s < count
      → p ≡ get_or next s p → p < length list
  place_within k s p xs list next x so lt at is below read =
      let here = place_is k s p xs list next so below read in
      omega (arith, room s k xs x lt at (sym is), before_within (suc s) xs, so.long, here)

  -- no place of another shard is that one
  apart : (i s j k p : ℕ) (xs : List A) → i ≢ s → j < length (own i (take k xs))
      → p ≡ before s xs + length (own s (take k xs)) → p < before (suc s) xs → before i xs + j ≢ p
  apart i s j k p xs other less at within = elim (cases_lt i s) [
    | inl lt ↦ λ e. omega (arith, e, less, at, own_below i k xs, before_more i xs, before_rises (suc i) s xs lt)
    | inr le ↦ λ e. omega (arith, e, within, before_rises (suc s) i xs (omega (arith, le, other)))
  ]

  held_own : (s j k p : ℕ) (xs list : List A) (next : List ℕ) (x d : A) → IsSorting k xs list next
      → k < length xs → x ≡ get_or xs k x → s ≡ shard x → s < count → p ≡ get_or next s p
      → j < length (own s (take (k + 1) xs))
      → get_or (set list p x) (before s xs + j) d ≡ get_or (own s (take (k + 1) xs)) j d
  held_own s j k p xs list next x d so lt at is below read less =
      let o = own s (take k xs) in
      let gains = own_gains s k xs x lt at (sym is) in
      let here = place_is k s p xs list next so below read in
      let within = place_within k s p xs list next x so lt at is below read in
      elim (cases_eq j (length o)) [
        | inl same ↦
            let there : before s xs + j ≡ p = omega (arith, same, here) in
            ap (λ n. get_or (set list p x) n d) there
            ∙ get_or-set_same list p x d within
            ∙ sym (get_or_push o x d j (sym same))
            ∙ ap (λ ys. get_or ys j d) (sym gains)
        | inr other ↦
            let few : j < length o = omega (arith, other, less, size_gains s k xs x lt at (sym is)) in
            let off : before s xs + j ≢ p = λ e. omega (arith, e, few, here) in
            get_or-set_other list p (before s xs + j) x d off
            ∙ so.held s j d below few
            ∙ sym (get_or_append_left o (x ∷ []) d j few)
            ∙ ap (λ ys. get_or ys j d) (sym gains)
      ]

  held_other : (i s j k p : ℕ) (xs list : List A) (next : List ℕ) (x d : A)
      → IsSorting k xs list next → k < length xs → x ≡ get_or xs k x → s ≡ shard x → s < count
      → p ≡ get_or next s p → i < count → i ≢ s → j < length (own i (take (k + 1) xs))
      → get_or (set list p x) (before i xs + j) d ≡ get_or (own i (take (k + 1) xs)) j d
  held_other i s j k p xs list next x d so lt at is below read less other few =
      let stays = own_stays i k xs x lt at (λ e. other (sym e ∙ sym is)) in
      let fewer : j < length (own i (take k xs)) = subst (λ ys. j < length ys) stays few in
      let here = place_is k s p xs list next so below read in
      let mine : p < before (suc s) xs = omega (arith, here, room s k xs x lt at (sym is)) in
      get_or-set_other list p (before i xs + j) x d (apart i s j k p xs other fewer here mine)
      ∙ so.held i j d less fewer
      ∙ ap (λ ys. get_or ys j d) (sym stays)

  pub sort_more : (k s p : ℕ) (xs list : List A) (next : List ℕ) (x : A)
      → IsSorting k xs list next → k < length xs → x ≡ get_or xs k x → s ≡ shard x → s < count
      → p ≡ get_or next s p → IsSorting (k + 1) xs (set list p x) (set next s (p + 1))
  sort_more k s p xs list next x so lt at is below read =
      let here = place_is k s p xs list next so below read in
      let mine : get_or (set next s (p + 1)) s 0 ≡ before s xs + length (own s (take (k + 1) xs)) =
      get_or-set_same next s (p + 1) 0 (omega (arith, so.size, below))
      ∙ omega (arith, here, size_gains s k xs x lt at (sym is)) in
      record {
        long = length-set list p x ∙ so.long;
        size = length-set next s (p + 1) ∙ so.size;
        place = λ i less. elim (cases_eq i s) [
          | inl same ↦ subst (λ (n : ℕ). get_or (set next s (p + 1)) n 0 ≡ before n xs + length (own n (take (k + 1) xs))) (sym same) mine
          | inr other ↦
              get_or-set_other next s i (p + 1) 0 other
              ∙ so.place i less
              ∙ ap (λ ys. before i xs + length ys) (sym (own_stays i k xs x lt at (λ e. other (sym e ∙ sym is))))
        ];
        held = λ i j d less few. elim (cases_eq i s) [
          | inl same ↦
              subst (λ (n : ℕ). j < length (own n (take (k + 1) xs)) → get_or (set list p x) (before n xs + j) d ≡ get_or (own n (take (k + 1) xs)) j d) (sym same)
              (held_own s j k p xs list next x d so lt at is below read) few
          | inr other ↦ held_other i s j k p xs list next x d so lt at is below read less other few
        ];
      }
