-- The greatest items of a list without ties: a part that no other item is above, sorted and turned
-- round.
use Rattle.std.proofs.Common.{◌≡◌, ℕ, suc, ◌+◌, ◌<◌, ◌≤◌, true, false, cond, List, [], ◌∷◌, ◌++◌, length, get_or, reverse, add-one, sym, ap, refl, ◌∙◌, subst, inl, inr, ◌⊎◌, arith}
use Rattle.std.specs.List.{AllByRecursion, count_by}
use Rattle.std.specs.List.Sorted.{IsPermutation, IsSorted, IsSplitAround}
use Rattle.std.specs.Ordering.{is_eq, is_lt, flip_args}
use Rattle.std.specs.declared.cmp.Ordering.{Ordering}
use Rattle.std.specs.declared.cmp.Ordering.TheVariants.{Less, Equal, Greater}
use Rattle.std.proofs.lemmas.Cmp.{tied_itself}
use Rattle.std.proofs.lemmas.List.{reverse-append}
use Rattle.std.proofs.lemmas.List.Sorted.{sum_by-IsPermutation, IsPermutation-reverse, ranks_by, sorted_far}
use Rattle.std.proofs.lemmas.List.Sums.{sum_by-cons, sum_by-append}
use Rattle.warm_stamps.specs.Distinct.{insert_distinct, distinct, IsAscending}
use Rattle.warm_stamps.proofs.DistinctLemmas.{IsStrictOrder, Has, by_cases, flipped, distinct_same, insert_below, below_distinct, all_of_has, all_append}
use Rattle.warm_stamps.proofs.StampLemmas.{IsStrictOrder-flip}

-- ---- facts of each item

all_reverse : {A : Type 0} (P : A → Type 0) (xs : List A) → AllByRecursion P xs
    → AllByRecursion P (reverse xs)
all_reverse P [] all = tt
all_reverse P (x ∷ xs) all = subst (AllByRecursion P) (sym (reverse-append (x ∷ []) xs)) (all_append P (reverse xs) (x ∷ []) (all_reverse P xs all.1) (all.0, tt))

-- how often an item occurs in a list
abbrev pub ties : {A : Type 0} → (A → A → Ordering) → A → List A → ℕ
ties cmp x xs = count_by (λ y. is_eq (cmp x y)) xs

-- no item occurs in the list twice
abbrev pub HasNoTies : {A : Type 0} → (A → A → Ordering) → List A → Type 0
HasNoTies {A} cmp xs = (x : A) → ties cmp x xs ≤ 1

-- no item of top is below one of rest
abbrev pub IsAbove : {A : Type 0} → (A → A → Ordering) → List A → List A → Type 0
IsAbove {A} cmp rest top = (r t : A) → Has rest r → Has top t → is_lt (cmp t r) ≡ false

module _ {A : Type 0} (cmp : A → A → Ordering) (order : IsStrictOrder cmp) where
  -- ---- how often an item occurs in a list

  pub ties-here : (x y : A) (ys : List A) → cmp x y ≡ Equal
      → ties cmp x (y ∷ ys) ≡ 1 + ties cmp x ys
  ties-here x y ys tied = sum_by-cons (λ z. cond (is_eq (cmp x z)) 1 0) y ys ∙ ap (λ o. cond (is_eq o) 1 0 + ties cmp x ys) tied

  pub ties-other : (x y : A) (ys : List A) → is_eq (cmp x y) ≡ false
      → ties cmp x (y ∷ ys) ≡ ties cmp x ys
  ties-other x y ys other =
      let step : ties cmp x (y ∷ ys) ≡ 0 + ties cmp x ys = sum_by-cons (λ z. cond (is_eq (cmp x z)) 1 0) y ys ∙ ap (λ b. cond b 1 0 + ties cmp x ys) other in
      omega arith

  ties-append : (x : A) (xs ys : List A) → ties cmp x (xs ++ ys) ≡ ties cmp x xs + ties cmp x ys
  ties-append x xs ys = sum_by-append (λ z. cond (is_eq (cmp x z)) 1 0) xs ys

  pub ties-permutation : (x : A) (xs ys : List A) → IsPermutation xs ys
      → ties cmp x ys ≡ ties cmp x xs
  ties-permutation x xs ys moved = sum_by-IsPermutation (λ z. cond (is_eq (cmp x z)) 1 0) xs ys moved

  has_from_ties : (x : A) (ys : List A) → 0 < ties cmp x ys → Has ys x
  has_from_ties x [] some = absurd (omega arith)
  has_from_ties x (y ∷ ys) some = by_cases (cmp x y) _
      (λ less. inr (has_from_ties x ys (subst (λ n. 0 < n) (ties-other x y ys (ap is_eq less)) some)))
      (λ tied. inl (sym (order.same x y tied)))
      (λ more. inr (has_from_ties x ys (subst (λ n. 0 < n) (ties-other x y ys (ap is_eq more)) some)))

  ties_from_has : (x : A) (ys : List A) → Has ys x → 0 < ties cmp x ys
  ties_from_has x [] has = absurd has
  ties_from_has x (y ∷ ys) (inl here) =
      let tied : cmp x y ≡ Equal = ap (cmp x) here ∙ tied_itself order.total x in
      omega (arith, ties-here x y ys tied)
  ties_from_has x (y ∷ ys) (inr there) =
      let later = ties_from_has x ys there in
      let step = ties-append x (y ∷ []) ys in
      omega arith

  -- ---- sorted lists without ties cmp rise

  above_first : (x : A) (ys : List A)
      → ((j : ℕ) → j < length ys → is_lt (cmp (get_or ys j x) x) ≡ false) → ties cmp x ys ≡ 0
      → AllByRecursion (λ y. cmp x y ≡ Less) ys
  above_first x [] not_below none = tt
  above_first x (y ∷ ys) not_below none =
      by_cases (cmp x y) _
      (λ less. (less, above_first x ys (λ j lt. not_below (suc j) (omega arith)) (sym (ties-other x y ys (ap is_eq less)) ∙ none)))
      (λ tied. absurd (omega (arith, ties-here x y ys tied)))
      (λ more. let no : true ≡ false = sym (ap is_lt (flipped cmp order x y Greater more)) ∙ not_below 0 (omega arith) in absurd (cc))

  no_ties_tail : (x : A) (xs : List A) → HasNoTies cmp (x ∷ xs) → HasNoTies cmp xs
  no_ties_tail x xs once y = let step = ties-append y (x ∷ []) xs in omega (arith, once y)

  pub ascending_from_sorted : (xs : List A) → HasNoTies cmp xs → IsSorted cmp xs
      → IsAscending cmp xs
  ascending_from_sorted [] once sorted = tt
  ascending_from_sorted (x ∷ xs) once sorted =
      (above_first x xs (λ j lt. sorted_far (λ a b. is_lt (cmp a b)) (ranks_by order.total (λ a. a)) (x ∷ xs) sorted 0 (suc j) x (omega arith) (omega arith)) none, ascending_from_sorted xs (no_ties_tail x xs once) (λ k d low lt. tail k d (sorted (suc k) d (omega arith) (omega arith))))
    where
      none : ties cmp x xs ≡ 0
      none = omega (arith, once x, ties-here x x xs (tied_itself order.total x))

      tail : (k : ℕ) (d : A)
          → is_lt (cmp (get_or (x ∷ xs) (suc k + 1) d) (get_or (x ∷ xs) (suc k) d)) ≡ false
          → is_lt (cmp (get_or xs (k + 1) d) (get_or xs k d)) ≡ false
      tail k d is = rw add-one (rw add-one at is)

  ascending_last : (xs : List A) (y : A) → IsAscending cmp xs
      → AllByRecursion (λ x. cmp x y ≡ Less) xs → IsAscending cmp (xs ++ y ∷ [])
  ascending_last [] y rising below = (tt, tt)
  ascending_last (x ∷ xs) y rising below = (all_append (λ z. cmp x z ≡ Less) xs (y ∷ []) rising.0 (below.0, tt), ascending_last xs y rising.1 below.1)

  -- ---- the distinct items of lesser and of greater ones

  -- ascending items that are all below the others come first
  pub distinct-append : (xs ys : List A) → IsAscending cmp xs
      → AllByRecursion (λ x. AllByRecursion (λ y. cmp x y ≡ Less) ys) xs
      → distinct cmp (xs ++ ys) ≡ xs ++ distinct cmp ys
  distinct-append [] ys rising below = refl
  distinct-append (x ∷ xs) ys rising below =
      ap (insert_distinct cmp x) (distinct-append xs ys rising.1 below.1)
      ∙ insert_below cmp order x (xs ++ distinct cmp ys) (all_append (λ z. cmp x z ≡ Less) xs (distinct cmp ys) rising.0 (below_distinct cmp order x ys below.0))

module _ {A : Type 0} (cmp : A → A → Ordering) (order : IsStrictOrder cmp) where
  pub descending_reverse : (xs : List A) → IsAscending cmp xs → IsAscending (flip_args cmp) (reverse xs)
  descending_reverse [] rising = tt
  descending_reverse (x ∷ xs) rising =
      subst (IsAscending (flip_args cmp)) (sym (reverse-append (x ∷ []) xs))
      (ascending_last (flip_args cmp) (IsStrictOrder-flip cmp order) (reverse xs) x (descending_reverse xs rising.1) (all_reverse (λ y. cmp x y ≡ Less) xs rising.0))

  same_items : (x : A) (xs ys : List A) → ties cmp x xs ≡ ties cmp x ys → Has xs x → Has ys x
  same_items x xs ys same has = let some = ties_from_has cmp order x xs has in has_from_ties cmp order x ys (omega arith)

  -- without ties, what is not below is above
  less_from_above : (xs rest top : List A) → HasNoTies cmp xs → IsPermutation xs (rest ++ top)
      → IsAbove cmp rest top → (r t : A) → Has rest r → Has top t → cmp r t ≡ Less
  less_from_above xs rest top once parted above r t has_r has_t =
      by_cases (cmp r t) _
      (λ less. less)
      (λ tied.
      let same : r ≡ t = order.same r t tied in
      let there : Has top r = subst (Has top) (sym same) has_t in
      let first = ties_from_has cmp order r rest has_r in
      let second = ties_from_has cmp order r top there in
      absurd (omega (arith, once r, ties-permutation cmp order r xs (rest ++ top) parted, ties-append cmp order r rest top)))
      (λ more. let no : true ≡ false = sym (ap is_lt (flipped cmp order r t Greater more)) ∙ above r t has_r has_t in absurd (cc))

  -- a list without ties, of which no item of top is below one of rest: its distinct items,
  -- descending
  pub distinct-descending : (xs rest top sorted : List A) → HasNoTies cmp xs
      → IsPermutation xs (rest ++ top) → IsAbove cmp rest top → IsPermutation top sorted
      → IsSorted cmp sorted
      → distinct (flip_args cmp) xs ≡ reverse sorted ++ distinct (flip_args cmp) rest
  distinct-descending xs rest top sorted once parted above moved in_order =
      let order_back : IsStrictOrder (flip_args cmp) = IsStrictOrder-flip cmp order in
      distinct_same (flip_args cmp) order_back xs (reverse sorted ++ rest) (λ x has. same_items x xs (reverse sorted ++ rest) (sym (counts x)) has) (λ x has. same_items x (reverse sorted ++ rest) xs (counts x) has)
      ∙ distinct-append (flip_args cmp) order_back (reverse sorted) rest falls below
    where
      as_top : (x : A) → ties cmp x (reverse sorted) ≡ ties cmp x top
      as_top x = ties-permutation cmp order x sorted (reverse sorted) (IsPermutation-reverse sorted) ∙ ties-permutation cmp order x top sorted moved

      counts : (x : A) → ties cmp x (reverse sorted ++ rest) ≡ ties cmp x xs
      counts x = omega (arith, as_top x, ties-append cmp order x (reverse sorted) rest, ties-append cmp order x rest top, ties-permutation cmp order x xs (rest ++ top) parted)

      once_sorted : HasNoTies cmp sorted
      once_sorted x = omega (arith, once x, ties-permutation cmp order x top sorted moved, ties-append cmp order x rest top, ties-permutation cmp order x xs (rest ++ top) parted)

      falls : IsAscending (flip_args cmp) (reverse sorted)
      falls = descending_reverse sorted (ascending_from_sorted cmp order sorted once_sorted in_order)

      below : AllByRecursion (λ t. AllByRecursion (λ r. cmp r t ≡ Less) rest) (reverse sorted)
      below = all_of_has (λ t. AllByRecursion (λ r. cmp r t ≡ Less) rest) (reverse sorted) (λ t has_t.
          all_of_has (λ r. cmp r t ≡ Less) rest (λ r has_r. less_from_above xs rest top once parted above r t has_r (same_items t (reverse sorted) top (as_top t) has_t)))

  -- what is split round an item: nothing after it is below it or what comes before
  pub above_from_split : (front : List A) (one : A) (back : List A)
      → IsSplitAround cmp front one back → IsAbove cmp (front ++ one ∷ []) back
  above_from_split front one back split r t has_r has_t =
      let weak = ranks_by order.total (λ (a : A). a) in
      let not_below : is_lt (cmp t one) ≡ false = at_place (λ y. is_lt (cmp y one) ≡ false) back t (λ k lt. split.1 k t lt) has_t in
      elim (has_last front one r has_r) [
        | inl before ↦ weak.chain t one r not_below (at_place (λ y. is_lt (cmp one y) ≡ false) front r (λ k lt. split.0 k r lt) before)
        | inr same ↦ subst (λ y. is_lt (cmp t y) ≡ false) same not_below
      ]
    where
      has_last : (xs : List A) (y x : A) → Has (xs ++ y ∷ []) x → Has xs x ⊎ (y ≡ x)
      has_last [] y x (inl same) = inr same
      has_last [] y x (inr none) = absurd none
      has_last (z ∷ xs) y x (inl here) = inl (inl here)
      has_last (z ∷ xs) y x (inr there) = elim (has_last xs y x there) [ inl has ↦ inl (inr has) | inr same ↦ inr same ]

      at_place : (P : A → Type 0) (xs : List A) (x : A)
          → ((k : ℕ) → k < length xs → P (get_or xs k x)) → Has xs x → P x
      at_place P [] x holds has = absurd has
      at_place P (y ∷ xs) x holds (inl here) = subst P here (holds 0 (omega arith))
      at_place P (y ∷ xs) x holds (inr there) = at_place P xs x (λ k lt. holds (suc k) (omega arith)) there
