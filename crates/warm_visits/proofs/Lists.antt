-- Filters of filters, and references in filtered lists.
use Rattle.std.proofs.Common.{◌≡◌, ◌⊎◌, inl, inr, Bool, true, false, cond, List, [], ◌∷◌, ◌++◌, filter, refl, sym, ap, ◌∙◌}
use Rattle.warm_stamps.specs.declared.Reference.{Reference}
use Rattle.warm_history.specs.References.{IsIn}

-- what passes the one test passes the other
pub filter_within : {A : Type 0} (t u : A → Bool) → ((x : A) → t x ≡ true → u x ≡ true)
    → (xs : List A) → filter t (filter u xs) ≡ filter t xs
filter_within t u only [] = refl
filter_within {A} t u only (x ∷ xs) = cases (u x) refl (t x) refl (filter_within t u only xs)
  where
    cases : (b : Bool) → u x ≡ b → (c : Bool) → t x ≡ c → filter t (filter u xs) ≡ filter t xs
        → filter t (filter u (x ∷ xs)) ≡ filter t (x ∷ xs)
    cases true is c is' rest = rw is (ap (λ ys. cond (t x) (x ∷ ys) ys) rest)
    cases false is true is' rest = let no : false ≡ true = sym is ∙ only x is' in cc
    cases false is false is' rest = rw (is, is') rest

-- what passes the one test does not pass the other
pub filter_none : {A : Type 0} (t u : A → Bool) → ((x : A) → t x ≡ true → u x ≡ false)
    → (xs : List A) → filter t (filter u xs) ≡ []
filter_none t u none [] = refl
filter_none {A} t u none (x ∷ xs) = cases (u x) refl (t x) refl (filter_none t u none xs)
  where
    cases : (b : Bool) → u x ≡ b → (c : Bool) → t x ≡ c → filter t (filter u xs) ≡ []
        → filter t (filter u (x ∷ xs)) ≡ []
    cases true is true is' rest = let no : true ≡ false = sym is ∙ none x is' in cc
    cases true is false is' rest = rw is (rw is' rest)
    cases false is c is' rest = rw is rest

pub in_both : (r : Reference) (S T : List Reference) → IsIn r (S ++ T) → IsIn r S ⊎ IsIn r T
in_both r [] T here = inr here
in_both r (s ∷ S) T here = elim here [
  | inl e ↦ inl (inl e)
  | inr later ↦ elim (in_both r S T later) [ inl first ↦ inl (inr first) | inr second ↦ inr second ]
]

pub in_first : (r : Reference) (S T : List Reference) → IsIn r S → IsIn r (S ++ T)
in_first r [] T here = absurd here
in_first r (s ∷ S) T here = elim here [ inl e ↦ inl e | inr later ↦ inr (in_first r S T later) ]

pub in_second : (r : Reference) (S T : List Reference) → IsIn r T → IsIn r (S ++ T)
in_second r [] T here = here
in_second r (s ∷ S) T here = inr (in_second r S T here)

pub in_filter : (t : Reference → Bool) (r : Reference) (S : List Reference) → IsIn r S → t r ≡ true
    → IsIn r (filter t S)
in_filter t r [] here is = absurd here
in_filter t r (s ∷ S) here is = elim here [
  | inl e ↦ let passes : t s ≡ true = ap t e ∙ is in rw passes (inl e)
  | inr later ↦ elim (t s) as (λ b. IsIn r (cond b (s ∷ filter t S) (filter t S))) [ true ↦ inr (in_filter t r S later is) | false ↦ in_filter t r S later is ]
]

pub from_filter : (t : Reference → Bool) (r : Reference) (S : List Reference) → IsIn r (filter t S)
    → IsIn r S × (t r ≡ true)
from_filter t r [] here = absurd here
from_filter t r (s ∷ S) here = cases (t s) refl (from_filter t r S)
  where
    cases : (b : Bool) → t s ≡ b → (IsIn r (filter t S) → IsIn r S × (t r ≡ true))
        → IsIn r (s ∷ S) × (t r ≡ true)
    cases true is rest = elim (rw is at here) [ inl e ↦ (inl e, ap t (sym e) ∙ is) | inr later ↦ (inr (rest later).0, (rest later).1) ]
    cases false is rest = let there = rest (rw is at here) in (inr there.0, there.1)
