-- The head of a text: the number that its digits spell, and where its first word ends.
use Rattle.std.specs.Prelude.{ℕ, List, [], ◌∷◌, Bool, ◌==◌, Option, Some, None, option_map}
use Rattle.std.specs.Prelude.{if◌then◌else◌, drop}
use Rattle.std.specs.List.{take_while, prefix_len}
use Rattle.warm_stamps.specs.declared.PageId.{PageId}
use Rattle.warm_pool.specs.declared.slot.Slot.{Slot}
use Rattle.warm_player.specs.Text.{words}
use Rattle.warm_player.specs.Fields.{◌>>=◌, is_byte_in, number_up_to}

-- whether a byte is a decimal digit
abbrev pub is_digit : ℕ → Bool
is_digit c = is_byte_in 48 57 c

-- the digits at the head of a text
abbrev pub leading_digits : List ℕ → List ℕ
leading_digits text = take_while is_digit text

-- what follows the digits at the head of a text
abbrev pub after_digits : List ℕ → List ℕ
after_digits text = drop (prefix_len is_digit text) text

-- the number at the head of a text, and what follows it
unfoldable pub head_number : ℕ → List ℕ → Option (ℕ × List ℕ)
head_number limit text =
    option_map (λ n. (n, after_digits text)) (number_up_to limit (leading_digits text))

-- what follows this byte at the head of a text
abbrev pub behind : ℕ → List ℕ → Option (List ℕ)
behind separator [] = None
behind separator (c ∷ cs) = if c == separator then Some cs else None

-- the words behind the end of a word, if the word ends here
abbrev pub words_behind : List ℕ → Option (List (List ℕ))
words_behind [] = Some []
words_behind (c ∷ cs) = if c == 32 then Some (words cs) else None

-- a page in front of the end of a word, and the words behind it
abbrev pub head_page : List ℕ → Option (PageId × List (List ℕ))
head_page text = do
  device ← head_number 65535 text
  rest ← behind 58 device.1
  number ← head_number 18446744073709551615 rest
  later ← words_behind number.1
  Some (record { dev = device.0; no = number.0 }, later)

-- a slot in front of the end of a word, and the words behind it
abbrev pub head_slot : List ℕ → Option (Slot × List (List ℕ))
head_slot text = do
  frame ← head_number 4294967295 text
  rest ← behind 46 frame.1
  generation ← head_number 18446744073709551615 rest
  later ← words_behind generation.1
  Some (record { index = frame.0; generation = generation.0 }, later)
