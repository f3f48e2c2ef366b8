-- One frame or one device of a list, after one of them changed.
use Rattle.std.proofs.Common.{◌≡◌, ◌≢◌, ℕ, ◌<◌, List, length, map, set, get_or, sym, ◌∙◌, subst, inl, inr}
use Rattle.std.proofs.lemmas.Bool.{cases_eq}
use Rattle.std.proofs.lemmas.List.{get_or-set_same, get_or-set_other, length-map, ext_get_or}
use Rattle.std.proofs.Math.ListN.{get_or-map as mapped}

-- what holds of the item that changed, and of the others, holds of each
pub at_set : {A : Type 0} (d : A) (P : ℕ → A → Type 0) (xs : List A) (i : ℕ) (y : A) → i < length xs
    → P i y
    → ((j : ℕ) → j ≢ i → P j (get_or xs j d)) → (j : ℕ) → P j (get_or (set xs i y) j d)
at_set d P xs i y h here others j = elim (cases_eq j i) [
  | inl e ↦ subst (λ n. P n (get_or (set xs i y) n d)) (sym e) (subst (P i) (sym (get_or-set_same xs i y d h)) here)
  | inr ne ↦ subst (P j) (sym (get_or-set_other xs i j y d ne)) (others j ne)
]

-- two lists that a function does not distinguish, item by item
pub same_maps : {A B : Type 0} (f : A → B) (d : A) (xs ys : List A) → length xs ≡ length ys
    → ((i : ℕ) → f (get_or xs i d) ≡ f (get_or ys i d)) → map f xs ≡ map f ys
same_maps f d xs ys count same =
    ext_get_or (f d) (map f xs) (map f ys) (length-map xs f ∙ count ∙ sym (length-map ys f))
    (λ i _. mapped f xs i d ∙ same i ∙ sym (mapped f ys i d))
