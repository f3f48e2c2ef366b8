-- Lines that are known by their first bytes.
use Rattle.std.proofs.Common.{◌≡◌, ℕ, List, ◌∷◌, Option, refl, sym, ap, ◌∙◌}
use Rattle.std.specs.Prelude.{option_map}
use Rattle.warm_player.specs.Text.{words}
use Rattle.warm_player.specs.Grammar.{line_of, commands, refer_of, pin_of, unpin_of}
use Rattle.warm_player.specs.declared.parse.Line.{Line}
use Rattle.warm_player.specs.declared.parse.Line.TheVariants as meant

-- "ref "
ref_line : (fields : List ℕ) → line_of (114 ∷ 101 ∷ 102 ∷ 32 ∷ fields)
    ≡ option_map meant.Act (refer_of (words fields))
unfolding line_of words commands
ref_line fields = refl

-- "pin "
pin_line : (fields : List ℕ) → line_of (112 ∷ 105 ∷ 110 ∷ 32 ∷ fields)
    ≡ option_map meant.Act (pin_of (words fields))
unfolding line_of words commands
pin_line fields = refl

-- "unpin "
unpin_line : (fields : List ℕ) → line_of (117 ∷ 110 ∷ 112 ∷ 105 ∷ 110 ∷ 32 ∷ fields)
    ≡ option_map meant.Act (unpin_of (words fields))
unfolding line_of words commands
unpin_line fields = refl

pub ref_read : (line fields : List ℕ) (read : Option Line) → line ≡ 114 ∷ 101 ∷ 102 ∷ 32 ∷ fields
    → read ≡ option_map meant.Act (refer_of (words fields)) → line_of line ≡ read
ref_read line fields read begins e = ap line_of begins ∙ ref_line fields ∙ sym e

pub pin_read : (line fields : List ℕ) (read : Option Line) → line ≡ 112 ∷ 105 ∷ 110 ∷ 32 ∷ fields
    → read ≡ option_map meant.Act (pin_of (words fields)) → line_of line ≡ read
pin_read line fields read begins e = ap line_of begins ∙ pin_line fields ∙ sym e

pub unpin_read : (line fields : List ℕ) (read : Option Line) → line ≡ 117 ∷ 110 ∷ 112 ∷ 105 ∷ 110 ∷ 32 ∷ fields
    → read ≡ option_map meant.Act (unpin_of (words fields)) → line_of line ≡ read
unpin_read line fields read begins e = ap line_of begins ∙ unpin_line fields ∙ sym e
