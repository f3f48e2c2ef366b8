-- Loops that add, for each item of a list, its part of a result: f gives the part of each list of
-- items, that of two lists one after the other.
use Rattle.std.proofs.Common.{◌≡◌, ◌+◌, ◌<◌, ◌≤◌, ℕ, List, [], ◌∷◌, ◌++◌, append_assoc, drop, get_or, length, sym, ap, ◌∙◌}
use Rattle.std.proofs.lemmas.List.{append-nil, drop_all, drop_more}

-- `done` is the part of the first i items, x is the next, and `new` has its part too
pub part_added : {A B : Type 0} (f : List A → List B)
    → ((xs ys : List A) → f (xs ++ ys) ≡ f xs ++ f ys) → (xs : List A) (i : ℕ) (x : A)
    → (done new all : List B) → i < length xs → x ≡ get_or xs i x → new ≡ done ++ f (x ∷ [])
    → done ++ f (drop i xs) ≡ all → new ++ f (drop (i + 1) xs) ≡ all
part_added f both xs i x done new all there is added so_far =
    let rest = drop (i + 1) xs in
    let next : drop i xs ≡ x ∷ rest = drop_more xs i x there ∙ ap (λ t. t ∷ rest) (sym is) in
    ap (λ t. t ++ f rest) added
    ∙ append_assoc done (f (x ∷ [])) (f rest)
    ∙ ap (λ t. done ++ t) (sym (ap f next ∙ both (x ∷ []) rest))
    ∙ so_far

-- no item is left
pub parts_are_all : {A B : Type 0} (f : List A → List B) → f [] ≡ [] → (xs : List A) (i : ℕ)
    → (done all : List B) → length xs ≤ i → done ++ f (drop i xs) ≡ all → done ≡ all
parts_are_all f none xs i done all le so_far =
    sym (append-nil done) ∙ ap (λ t. done ++ t) (sym (ap f (drop_all i xs le) ∙ none)) ∙ so_far
