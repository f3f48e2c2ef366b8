-- Places of a list.
use Rattle.std.proofs.Common.{◌≡◌, ℕ, ◌<◌, List, length, get_or, ◌∙◌}
use Rattle.std.proofs.lemmas.List.{get_or_default}

-- an item within the list, whatever stands beyond it
pub read_at : {A : Type 0} (xs : List A) (i : ℕ) (a d e : A) → i < length xs → a ≡ get_or xs i d
    → a ≡ get_or xs i e
read_at xs i a d e lt is = is ∙ get_or_default xs i d e lt
