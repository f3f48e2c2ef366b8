-- Two lists stay related place by place if one element of each changes, or one is added to each.
use Rattle.std.proofs.Common.{◌≡◌, ℕ, suc, ◌-◌, ◌<◌, get_or, subst, List, [], ◌∷◌, ◌++◌, length, map, refl, sym, ◌∙◌, inl, inr, arith}
use Rattle.std.proofs.Math.ListN.{set, get_or-append}
use Rattle.std.proofs.lemmas.List.{get_or-append_right, get_or-map, length-map, get_or-set_same, get_or-set_other, length-set, length-append}
use Rattle.std.proofs.Math.Seq.{get_or-append_seam}
use Rattle.std.proofs.lemmas.Bool.{cases_eq, cases_lt}
use Rattle.warm_world.specs.Lists.{Pairwise}

pub Pairwise-set : {A B : Type 0} (R : ℕ → A → B → Type 0) (xs : List A) (ys : List B) (i : ℕ)
    (x : A) (y : B) → Pairwise R xs ys → i < length xs → R i x y
    → Pairwise R (set xs i x) (set ys i y)
Pairwise-set R xs ys i x y all lt here = record {
  same_length = length-set xs i x ∙ all.same_length ∙ sym (length-set ys i y);
  each = λ j a b in_range.
      let lt_ys : i < length ys = omega (arith, all.same_length) in
      let j_in : j < length xs = omega (arith, length-set xs i x) in
      elim (cases_eq j i) [
        | inl e ↦ rw e (rw (get_or-set_same xs i x a lt, get_or-set_same ys i y b lt_ys) here)
        | inr ne ↦ rw (get_or-set_other xs i j x a ne, get_or-set_other ys i j y b ne) (all.each j a b j_in)
      ];
}

pub Pairwise-push : {A B : Type 0} (R : ℕ → A → B → Type 0) (xs : List A) (ys : List B) (x : A)
    (y : B) → Pairwise R xs ys → R (length xs) x y → Pairwise R (xs ++ x ∷ []) (ys ++ y ∷ [])
Pairwise-push R xs ys x y all here = record {
  same_length = omega (arith, length-append xs (x ∷ []), length-append ys (y ∷ []), all.same_length);
  each = λ j a b in_range.
      elim (cases_eq j (length xs)) [
        | inl e ↦ rw e (rw get_or-append_seam (rw all.same_length (rw get_or-append_seam (rw (← all.same_length) here))))
        | inr ne ↦
            let j_in : j < length xs = omega (arith, length-append xs (x ∷ [])) in
            let j_ys : j < length ys = omega (arith, all.same_length) in
            rw (get_or-append xs (x ∷ []) a j j_in, get_or-append ys (y ∷ []) b j j_ys) (all.each j a b j_in)
      ];
}

-- what the relation keeps is the same at each place
pub Pairwise-map : {A B C : Type 0} (R : ℕ → A → B → Type 0) (f : A → C) (g : B → C) (xs : List A)
    (ys : List B) → ((i : ℕ) (a : A) (b : B) → R i a b → f a ≡ g b) → Pairwise R xs ys
    → map f xs ≡ map g ys
Pairwise-map R f g [] [] same all = refl
Pairwise-map R f g [] (y ∷ ys) same all = absurd (omega (arith, all.same_length))
Pairwise-map R f g (x ∷ xs) [] same all = absurd (omega (arith, all.same_length))
Pairwise-map {A} {B} R f g (x ∷ xs) (y ∷ ys) same all =
    let rest : Pairwise (λ (i : ℕ) (a : A) (b : B). R (suc i) a b) xs ys = record {
      same_length = omega (arith, all.same_length);
      each = λ i a b lt. all.each (suc i) a b (omega arith);
    } in
    let head : f x ≡ g y = same 0 x y (all.each 0 x y (omega arith)) in
    let tail : map f xs ≡ map g ys = Pairwise-map (λ i a b. R (suc i) a b) f g xs ys (λ i. same (suc i)) rest in
    cc

pub Pairwise-nil : {A B : Type 0} (R : ℕ → A → B → Type 0) → Pairwise R [] []
Pairwise-nil R = record { same_length = refl; each = λ i a b lt. absurd (omega (arith, lt)) }

-- one list after another is related, if the relation does not depend on the place
pub Pairwise-append : {A B : Type 0} (R : A → B → Type 0) (xs ys' : List A) (ys zs : List B)
    → Pairwise (λ _ a b. R a b) xs ys → Pairwise (λ _ a b. R a b) ys' zs
    → Pairwise (λ _ a b. R a b) (xs ++ ys') (ys ++ zs)
Pairwise-append R xs ys' ys zs first second = record {
  same_length = omega (arith, length-append xs ys', length-append ys zs, first.same_length, second.same_length);
  each = λ j a b in_range. elim (cases_lt j (length xs)) [
    | inl lt ↦ rw (get_or-append xs ys' a j lt, get_or-append ys zs b j (omega (arith, first.same_length))) (first.each j a b lt)
    | inr le ↦
        let low : j - length xs < length ys' = omega (arith, length-append xs ys') in
        rw (get_or-append_right xs ys' (length xs) j a refl le, get_or-append_right ys zs (length xs) j b (sym first.same_length) le) (second.each (j - length xs) a b low)
  ];
}

-- what holds of related items holds of those that the second list is made of
pub Pairwise-of : {A B C : Type 0} (R : A → B → Type 0) (P : A → C → Type 0) (f : C → B)
    (xs : List A) (cs : List C) → ((a : A) (c : C) → R a (f c) → P a c)
    → Pairwise (λ _ a b. R a b) xs (map f cs) → Pairwise (λ _ a c. P a c) xs cs
Pairwise-of R P f xs cs from all = record {
  same_length = all.same_length ∙ length-map cs f;
  each = λ j a c lt.
      let low : j < length cs = omega (arith, all.same_length, length-map cs f) in
      from _ _ (subst (R (get_or xs j a)) (get_or-map f cs j c (f c) low) (all.each j a (f c) lt));
}
