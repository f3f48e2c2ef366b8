-- Bytes split at a separator: the lines of a schedule, and the words of a line.
use Rattle.std.specs.Prelude.{◌≢◌, ℕ, List, [], ◌∷◌, ◌==◌, if◌then◌else◌, Bool, true, false, filter}
use Rattle.std.specs.List.{AllByRecursion}

-- the pieces with a byte added before the first
abbrev pub onto_first : ℕ → List (List ℕ) → List (List ℕ)
onto_first c [] = (c ∷ []) ∷ []
onto_first c (piece ∷ pieces) = (c ∷ piece) ∷ pieces

-- the pieces between the bytes that are `separator`, empty pieces too
abbrev pub split : ℕ → List ℕ → List (List ℕ)
split separator [] = [] ∷ []
split separator (c ∷ cs) =
    if c == separator then [] ∷ split separator cs else onto_first c (split separator cs)

-- bytes of one line
abbrev pub IsLine : List ℕ → Type 0
IsLine line = AllByRecursion (λ c. c ≢ 10) line

-- a line ends with byte 0A or with the text
abbrev pub lines : List ℕ → List (List ℕ)
lines text = split 10 text

-- whether there is a byte
abbrev pub has_bytes : List ℕ → Bool
has_bytes [] = false
has_bytes (c ∷ cs) = true

-- words are separated by one or more spaces; no other byte is a space
unfoldable pub words : List ℕ → List (List ℕ)
words line = filter has_bytes (split 32 line)
