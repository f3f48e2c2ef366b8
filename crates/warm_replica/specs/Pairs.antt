-- Lists that agree place by place.
use Rattle.std.specs.Prelude.{List, [], ◌∷◌}

-- two lists of one length, related place by place
abbrev pub Pairs : {A B : Type 0} → (A → B → Type 0) → List A → List B → Type 0
Pairs P [] [] = Unit {0}
Pairs P (a ∷ xs) (b ∷ ys) = P a b × Pairs P xs ys
Pairs P _ _ = ⊥

-- three lists of one length, related place by place
abbrev pub Triples : {A B D : Type 0} → (A → B → D → Type 0) → List A → List B → List D → Type 0
Triples P [] [] [] = Unit {0}
Triples P (a ∷ xs) (b ∷ ys) (d ∷ zs) = P a b d × Triples P xs ys zs
Triples P _ _ _ = ⊥
