-- Pages stored one after the other.
use Rattle.std.specs.Prelude.{ℕ, zero, suc, List, [], ◌∷◌, ◌++◌, take, drop}

-- the bytes cut into this many pieces of one size
unfoldable pub equal_pieces : ℕ → ℕ → List ℕ → List (List ℕ)
equal_pieces zero size bytes = []
equal_pieces (suc n) size bytes = take size bytes ∷ equal_pieces n size (drop size bytes)

-- the list with the items from start to end replaced by these
abbrev pub with_part : {A : Type 0} → ℕ → ℕ → List A → List A → List A
with_part start end part xs = take start xs ++ (part ++ drop end xs)
