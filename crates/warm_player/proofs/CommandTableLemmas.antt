-- Tables of commands, and what a word finds in them.
use Rattle.std.proofs.Common.{◌≡◌, ℕ, List, [], ◌∷◌, Bool, true, false, Option, Some, map, refl}
use Rattle.std.specs.Prelude.{bytes_eq, option_map, if◌then◌else◌}
use Rattle.warm_player.specs.Grammar.{looked_up}

first_or : {A B : Type 0} (f : A → B) (here : Bool) (a : A) (found : Option A) (read : Option B)
    → read ≡ option_map f found
    → (if here then Some (f a) else read) ≡ option_map f (if here then Some a else found)
first_or f true a found read e = refl
first_or f false a found read e = e

-- a word finds in a table that is read what is read of what it finds there
pub looked_up-map : {A B : Type 0} (f : A → B) (rows : List (List ℕ × A)) (word : List ℕ)
    → looked_up (map (λ (row : List ℕ × A). (row.0, f row.1)) rows) word
    ≡ option_map f (looked_up rows word)
looked_up-map f [] word = refl
looked_up-map f (row ∷ rows) word = first_or f (bytes_eq word row.0) row.1 (looked_up rows word) _ (looked_up-map f rows word)
