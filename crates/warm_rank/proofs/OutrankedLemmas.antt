-- The first n of a rising list, if each item that is left out comes after n that are in.
--
-- Such an item r goes in behind n others, so it changes nothing among the first n. One after the
-- other, all that were left out go in so. What is left out twice, or is there already, goes in
-- without a change. So the first n of all items are the first n of those that are in.
use Rattle.std.proofs.Common.{◌≡◌, ℕ, zero, suc, ◌<◌, ◌≤◌, Bool, true, false, cond, List, [], ◌∷◌, ◌++◌, filter, length, take, sym, ap, refl, ◌∙◌, subst, inl, inr, ◌⊎◌, arith}
use Rattle.std.specs.Bool.{Decides}
use Rattle.std.specs.List.{AllByRecursion, Contains, IsDistinct}
use Rattle.std.specs.Ordering.{eq_by_cmp, is_eq, is_lt}
use Rattle.std.specs.declared.cmp.Ordering.{Ordering}
use Rattle.std.specs.declared.cmp.Ordering.TheVariants.{Less, Equal, Greater}
use Rattle.std.proofs.lemmas.Cmp.{eq_by_cmp_equiv, tied_itself}
use Rattle.std.proofs.lemmas.List.Elements.{All-contains, All-contains_itself, All-from_recursion, recursion_from_All}
use Rattle.std.proofs.lemmas.Map.Made.{is_member-Decides, length-le_from_is_member}
use Rattle.warm_stamps.specs.Distinct.{insert_distinct, distinct, IsAscending}
use Rattle.warm_stamps.proofs.DistinctLemmas.{IsStrictOrder, Has, all_of_has, all_take, by_cases, flipped, is_equal, distinct_same, distinct_rises, has_distinct, insert_present}

-- ---- the items of a list

-- what is true of all is true of each
pub all_has : {A : Type 0} (P : A → Type 0) (xs : List A) (x : A) → AllByRecursion P xs → Has xs x
    → P x
all_has P [] x all has = absurd has
all_has P (y ∷ ys) x all (inl is) = subst P is all.0
all_has P (y ∷ ys) x all (inr later) = all_has P ys x all.1 later

-- the two ways to say that a list has an item
pub contains_has : {A : Type 0} (xs : List A) (x : A) → Contains xs x → Has xs x
contains_has xs x contained = All-contains (Has xs) xs x (All-from_recursion (Has xs) xs (all_of_has (Has xs) xs (λ y has. has))) contained

pub has_contains : {A : Type 0} (xs : List A) (x : A) → Has xs x → Contains xs x
has_contains xs x has = all_has (Contains xs) xs x (recursion_from_All (Contains xs) xs (All-contains_itself xs)) has

-- the first items of a list are items of it
pub has_take : {A : Type 0} (n : ℕ) (xs : List A) (x : A) → Has (take n xs) x → Has xs x
has_take n xs x has = all_has (Has xs) (take n xs) x (all_take (Has xs) n xs (all_of_has (Has xs) xs (λ y is. is))) has

-- an item of two lists, one after the other, is an item of one of them
pub has_front : {A : Type 0} (xs ys : List A) (x : A) → Has xs x → Has (xs ++ ys) x
has_front [] ys x has = absurd has
has_front (y ∷ xs) ys x (inl here) = inl here
has_front (y ∷ xs) ys x (inr there) = inr (has_front xs ys x there)

pub has_back : {A : Type 0} (xs ys : List A) (x : A) → Has ys x → Has (xs ++ ys) x
has_back [] ys x has = has
has_back (y ∷ xs) ys x has = inr (has_back xs ys x has)

pub has_either : {A : Type 0} (xs ys : List A) (x : A) → Has (xs ++ ys) x → Has xs x ⊎ Has ys x
has_either [] ys x has = inr has
has_either (y ∷ xs) ys x (inl here) = inl (inl here)
has_either (y ∷ xs) ys x (inr there) = elim (has_either xs ys x there) [ inl front ↦ inl (inr front) | inr back ↦ inr back ]

-- the items that pass a test
pub has_filter : {A : Type 0} (test : A → Bool) (xs : List A) (x : A) → Has xs x → test x ≡ true
    → Has (filter test xs) x
has_filter test [] x has is = has
has_filter test (y ∷ ys) x has is = elim has [
  | inl e ↦ let here : test y ≡ true = ap test e ∙ is in rw here (inl e)
  | inr later ↦ elim (test y) as (λ b. Has (cond b (y ∷ filter test ys) (filter test ys)) x) [ true ↦ inr (has_filter test ys x later is) | false ↦ has_filter test ys x later is ]
]

pub has_from_filter : {A : Type 0} (test : A → Bool) (xs : List A) (x : A) → Has (filter test xs) x
    → Has xs x × (test x ≡ true)
has_from_filter test [] x has = absurd has
has_from_filter test (y ∷ ys) x has = cases (test y) refl (has_from_filter test ys x)
  where
    cases : (b : Bool) → test y ≡ b → (Has (filter test ys) x → Has ys x × (test x ≡ true))
        → Has (y ∷ ys) x × (test x ≡ true)
    cases true is rest = elim (rw is at has) [ inl e ↦ (inl e, ap test (sym e) ∙ is) | inr later ↦ (inr (rest later).0, (rest later).1) ]
    cases false is rest = let there = rest (rw is at has) in (inr there.0, there.1)

-- at least n different items of a list come before r
pub record IsOutranked {A : Type 0} (cmp : A → A → Ordering) (items : List A) (n : ℕ)
    (r : A) : Type 0 where
  pub first : List A
  pub count : n ≤ length first
  pub differ : IsDistinct (eq_by_cmp cmp) first
  pub within : (x : A) → Has first x → Has items x
  pub before : (x : A) → Has first x → cmp x r ≡ Less

module _ {A : Type 0} (cmp : A → A → Ordering) (order : IsStrictOrder cmp) where
  pub same_item : (x y : A) → Decides (eq_by_cmp cmp x y) (x ≡ y)
  same_item x y = (λ tied. order.same x y (is_equal (cmp x y) tied), λ is. ap (λ z. is_eq (cmp x z)) (sym is) ∙ ap is_eq (tied_itself order.total x))

  -- ---- an item that comes after n others

  all_after : (r x : A) (xs : List A) → cmp r x ≡ Less → AllByRecursion (λ y. cmp x y ≡ Less) xs
      → AllByRecursion (λ y. cmp r y ≡ Less) xs
  all_after r x [] less all = tt
  all_after r x (y ∷ ys) less all = (order.total.trans r x y less all.0, all_after r x ys less all.1)

  none_before : (r : A) (xs : List A) → AllByRecursion (λ y. cmp r y ≡ Less) xs
      → length (filter (λ x. is_lt (cmp x r)) xs) ≡ 0
  none_before r [] all = refl
  none_before r (x ∷ xs) all =
      let back : is_lt (cmp x r) ≡ false = ap is_lt (flipped cmp order r x Less all.0) in
      rw back (none_before r xs all.1)

  -- it changes nothing among the first n
  insert_far : (n : ℕ) (r : A) (xs : List A) → IsAscending cmp xs
      → n ≤ length (filter (λ x. is_lt (cmp x r)) xs)
      → take n (insert_distinct cmp r xs) ≡ take n xs
  insert_far zero r xs rising enough = refl
  insert_far (suc n) r [] rising enough = absurd (omega arith)
  insert_far (suc n) r (x ∷ xs) rising enough = by_cases (cmp r x) _
      (λ less.
      let none = none_before r (x ∷ xs) (less, all_after r x xs less rising.0) in
      absurd (omega (arith, none, enough)))
      (λ tied. rw tied refl)
      (λ more.
      let front : is_lt (cmp x r) ≡ true = ap is_lt (flipped cmp order r x Greater more) in
      let rest : n ≤ length (filter (λ y. is_lt (cmp y r)) xs) = let counted = rw front at enough in omega (arith, counted) in
      rw more (ap (λ t. x ∷ t) (insert_far n r xs rising.1 rest)))

  enough_before : (items more : List A) (n : ℕ) (r : A) → IsOutranked cmp items n r
      → n ≤ length (filter (λ x. is_lt (cmp x r)) (distinct cmp (more ++ items)))
  enough_before items more n r ranked =
      let all = distinct cmp (more ++ items) in
      let ahead = filter (λ x. is_lt (cmp x r)) all in
      let fits = length-le_from_is_member (eq_by_cmp_equiv order.total) ranked.first ahead ranked.differ (λ x is.
      let has : Has ranked.first x = contains_has ranked.first x ((is_member-Decides same_item ranked.first x).0 is) in
      let there : Has all x = has_distinct cmp order (more ++ items) x (has_back more items x (ranked.within x has)) in
      (is_member-Decides same_item ahead x).1 (has_contains ahead x (has_filter (λ y. is_lt (cmp y r)) all x there (ap is_lt (ranked.before x has))))) in
      omega (arith, fits, ranked.count)

  -- ---- items of which each is in a list, or comes after n of it

  add_far : (items more : List A) (n : ℕ)
      → ((r : A) → Has more r → Has items r ⊎ IsOutranked cmp items n r)
      → take n (distinct cmp (more ++ items)) ≡ take n (distinct cmp items)
  add_far items [] n each = refl
  add_far items (r ∷ more) n each = elim (each r (inl refl)) [
    | inl has ↦ ap (take n) (insert_present cmp order r (more ++ items) (has_back more items r has)) ∙ add_far items more n (λ x later. each x (inr later))
    | inr ranked ↦ insert_far n r (distinct cmp (more ++ items)) (distinct_rises cmp order (more ++ items)) (enough_before items more n r ranked) ∙ add_far items more n (λ x later. each x (inr later))
  ]

  -- so the first n of all are the first n of these
  pub first_of_some : (all items : List A) (n : ℕ) → ((x : A) → Has items x → Has all x)
      → ((r : A) → Has all r → Has items r ⊎ IsOutranked cmp items n r)
      → take n (distinct cmp all) ≡ take n (distinct cmp items)
  first_of_some all items n within each =
      ap (take n) (distinct_same cmp order all (all ++ items) (λ x has. has_front all items x has) (λ x has. elim (has_either all items x has) [ inl front ↦ front | inr back ↦ within x back ]))
      ∙ add_far items all n each

-- an item of a rising list is among its first n, or comes after n
pub taken_or_behind : {A : Type 0} (cmp : A → A → Ordering) (n : ℕ) (xs : List A) (r : A)
    → IsAscending cmp xs → Has xs r
    → Has (take n xs) r ⊎ ((n ≤ length (take n xs)) × ((x : A) → Has (take n xs) x → cmp x r ≡ Less))
taken_or_behind cmp zero xs r rising has = inr (omega arith, λ x none. absurd none)
taken_or_behind cmp (suc n) [] r rising has = absurd has
taken_or_behind cmp (suc n) (x ∷ xs) r rising (inl here) = inl (inl here)
taken_or_behind cmp (suc n) (x ∷ xs) r rising (inr there) = elim (taken_or_behind cmp n xs r rising.1 there) [
  | inl taken ↦ inl (inr taken)
  | inr (count, behind) ↦ inr (omega (arith, count), λ y first. elim first [ inl here ↦ subst (λ z. cmp z r ≡ Less) here (all_has (λ z. cmp x z ≡ Less) xs r rising.0 there) | inr later ↦ behind y later ])
]
