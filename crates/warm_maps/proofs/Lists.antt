-- Facts on `distinct`, and on the first two of its items.
use Rattle.std.proofs.Common.{◌≡◌, List, [], ◌∷◌, ◌++◌, sym, ap, refl, ◌∙◌}
use Rattle.std.specs.declared.cmp.Ordering.{Ordering}
use Rattle.warm_stamps.specs.Distinct.{insert_distinct, distinct, IsAscending}
use Rattle.warm_stamps.proofs.DistinctLemmas.{IsStrictOrder, by_cases, distinct_swap, distinct_rises, distinct_rising}

-- the first two items
abbrev pub front_two : {A : Type 0} → List A → List A
front_two [] = []
front_two (x ∷ []) = x ∷ []
front_two (x ∷ y ∷ ys) = x ∷ y ∷ []

module _ {A : Type 0} (cmp : A → A → Ordering) (order : IsStrictOrder cmp) where
  -- what is put into a list shows in its first two items as it would with these alone
  front_two-insert : (x : A) (ys : List A)
      → front_two (insert_distinct cmp x ys) ≡ front_two (insert_distinct cmp x (front_two ys))
  front_two-insert x [] = refl
  front_two-insert x (a ∷ []) = refl
  front_two-insert x (a ∷ b ∷ ys) = by_cases (cmp x a) _
      (λ xa. simp (xa))
      (λ xa. simp (xa))
      (λ xa. by_cases (cmp x b) _ (λ xb. simp (xa, xb)) (λ xb. simp (xa, xb)) (λ xb. simp (xa, xb)))

  front_two_again : (ys : List A) → front_two (front_two ys) ≡ front_two ys
  front_two_again [] = refl
  front_two_again (a ∷ []) = refl
  front_two_again (a ∷ b ∷ ys) = refl

  front_rises : (ys : List A) → IsAscending cmp ys → IsAscending cmp (front_two ys)
  front_rises [] rising = tt
  front_rises (a ∷ []) rising = rising
  front_rises (a ∷ b ∷ ys) rising = ((rising.0.0, tt), ((tt, tt)))

  -- the first two of the distinct items of two lists need the first two of the second alone
  pub front_two-second : (xs ys : List A)
      → front_two (distinct cmp (xs ++ ys))
      ≡ front_two (distinct cmp (xs ++ front_two (distinct cmp ys)))
  front_two-second [] ys =
      let rising = front_rises (distinct cmp ys) (distinct_rises cmp order ys) in
      sym (front_two_again (distinct cmp ys)) ∙ ap front_two (sym (distinct_rising cmp order _ rising))
  front_two-second (x ∷ xs) ys =
      front_two-insert x (distinct cmp (xs ++ ys))
      ∙ ap (λ t. front_two (insert_distinct cmp x t)) (front_two-second xs ys)
      ∙ sym (front_two-insert x (distinct cmp (xs ++ front_two (distinct cmp ys))))

  pub front_two-first : (xs ys : List A)
      → front_two (distinct cmp (xs ++ ys))
      ≡ front_two (distinct cmp (front_two (distinct cmp xs) ++ ys))
  front_two-first xs ys =
      ap front_two (distinct_swap cmp order xs ys)
      ∙ front_two-second ys xs
      ∙ ap front_two (distinct_swap cmp order ys (front_two (distinct cmp xs)))

  -- or the first two of each
  pub front_two-both : (xs ys : List A)
      → front_two (distinct cmp (xs ++ ys))
      ≡ front_two (distinct cmp (front_two (distinct cmp xs) ++ front_two (distinct cmp ys)))
  front_two-both xs ys = front_two-first xs ys ∙ front_two-second (front_two (distinct cmp xs)) ys
