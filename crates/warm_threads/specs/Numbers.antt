-- Lists whose items have numbers.
use Rattle.std.specs.Prelude.{ℕ, ◌+◌, List, [], ◌∷◌}

-- a property of each item of a list and its number; the first has this number
abbrev pub NumberedFrom : {A : Type 0} → ℕ → (ℕ → A → Type 0) → List A → Type 0
NumberedFrom n P [] = Unit {0}
NumberedFrom n P (x ∷ xs) = P n x × NumberedFrom (n + 1) P xs

-- a property of each item of a list and its number; the first has number 1
abbrev pub Numbered : {A : Type 0} → (ℕ → A → Type 0) → List A → Type 0
Numbered P xs = NumberedFrom 1 P xs
