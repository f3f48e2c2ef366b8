-- The bytes written to a writer, piece by piece. The crates above use it too.
use Rattle.std.proofs.Common.{ℕ, List, [], ◌++◌, Option, Some, None, sym, ap, ◌∙◌, append_assoc}
use Rattle.std.specs.Io.KnownBytes.{Appends}
use Rattle.std.proofs.lemmas.List.{append-nil}

-- nothing
pub Appends-none : (old : Option (List ℕ)) → Appends old old []
Appends-none None = tt
Appends-none (Some xs) = sym (append-nil xs)

-- one text after another
pub Appends-then : (a b c : Option (List ℕ)) (x y : List ℕ) → Appends a b x → Appends b c y
    → Appends a c (x ++ y)
Appends-then None b c x y h k = tt
Appends-then (Some xs) None c x y h k = absurd h
Appends-then (Some xs) (Some ys) None x y h k = absurd k
Appends-then (Some xs) (Some ys) (Some zs) x y h k = k ∙ ap (λ (t : List ℕ). t ++ y) h ∙ append_assoc xs x y
