-- Shares of the right to close a turn. All passes together have the whole right. So a pass that has
-- it is the only one, and then nobody waits.
use Rattle.std.specs.Prelude.{◌≡◌, ℕ, ◌+◌, ◌*◌}
use Rattle.warm_turn.specs.declared.table.Share.{Share}

-- this many parts of a whole
abbrev pub parts_of : ℕ → ℕ → Share
parts_of parts whole = record { parts = parts; whole = whole }

-- the whole right to close, which the first pass has
abbrev pub whole_share : Share
whole_share = parts_of 1 1

-- no share of the right to close, which a note has
abbrev pub no_share : Share
no_share = parts_of 0 1

-- half of the share, which a new pass gets and the other keeps
abbrev pub half : Share → Share
half s = parts_of s.parts (2 * s.whole)

-- the sum of two shares, which a pass has after another was ended into it
abbrev pub both : Share → Share → Share
both s t = parts_of (s.parts * t.whole + t.parts * s.whole) (s.whole * t.whole)

-- the share is the whole right
abbrev pub IsWhole : Share → Type 0
IsWhole s = s.parts ≡ s.whole

-- two shares are as large as each other
abbrev pub AsLarge : Share → Share → Type 0
AsLarge s t = s.parts * t.whole ≡ t.parts * s.whole
