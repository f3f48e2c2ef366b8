-- The fields of a line: numbers, pages, slots and bytes, and the words after them.
use Rattle.std.specs.Prelude.{ℕ, ◌+◌, ◌-◌, ◌*◌, List, [], ◌∷◌, Bool, ◌&&◌, nat_le, Option, Some}
use Rattle.std.specs.Prelude.{None, option_and_then, if◌then◌else◌}
use Rattle.warm_stamps.specs.declared.PageId.{PageId}
use Rattle.warm_stamps.specs.declared.TheConstants.{BUCKETS}
use Rattle.warm_pool.specs.declared.slot.Slot.{Slot}
use Rattle.warm_player.specs.Text.{split}

infixl 10 ◌>>=◌
-- the next reader gets the value, if there is one
abbrev pub ◌>>=◌ : {A B : Type 0} → Option A → (A → Option B) → Option B
o >>= f = option_and_then f o

-- ---- numbers and pages

-- the value of a decimal digit
abbrev pub digit_of : ℕ → Option ℕ
digit_of c = if nat_le 48 c && nat_le c 57 then Some (c - 48) else None

-- the number whose digits are those of n followed by these
abbrev pub digits_after : ℕ → List ℕ → Option ℕ
digits_after n [] = Some n
digits_after n (c ∷ cs) = digit_of c >>= λ d. digits_after (10 * n + d) cs

-- one or more digits
abbrev pub number_of : List ℕ → Option ℕ
number_of [] = None
number_of (c ∷ cs) = digits_after 0 (c ∷ cs)

-- the number, if it is at most the limit
abbrev pub up_to : ℕ → Option ℕ → Option ℕ
up_to limit None = None
up_to limit (Some n) = if nat_le n limit then Some n else None

-- the number that a word spells, at most the limit
unfoldable pub number_up_to : ℕ → List ℕ → Option ℕ
number_up_to limit word = up_to limit (number_of word)

-- a device and a number
abbrev pub page_of_parts : List (List ℕ) → Option PageId
page_of_parts (device ∷ number ∷ []) = do
  d ← number_up_to 65535 device
  n ← number_up_to 18446744073709551615 number
  Some (record { dev = d; no = n })
page_of_parts parts = None

-- the page that a word spells: a device, a colon and a number
unfoldable pub page_of_word : List ℕ → Option PageId
page_of_word word = page_of_parts (split 58 word)

-- ---- slots and bytes

-- a frame of a pool and a generation
abbrev pub slot_of_parts : List (List ℕ) → Option Slot
slot_of_parts (frame ∷ generation ∷ []) = do
  s ← number_up_to 4294967295 frame
  g ← number_up_to 18446744073709551615 generation
  Some (record { index = s; generation = g })
slot_of_parts parts = None

-- the slot that a word spells: a frame of a pool, a dot and a generation
unfoldable pub slot_of_word : List ℕ → Option Slot
slot_of_word word = slot_of_parts (split 46 word)

-- whether a byte is from the least to the greatest
abbrev pub is_byte_in : ℕ → ℕ → ℕ → Bool
is_byte_in least most c = nat_le least c && nat_le c most

-- 0 to 9, a to f or A to F
abbrev pub hex_digit_of : ℕ → Option ℕ
hex_digit_of c = if is_byte_in 48 57 c then Some (c - 48)
    else (if is_byte_in 97 102 c then Some (c - 87)
    else (if is_byte_in 65 70 c then Some (c - 55) else None))

-- the bytes that these digits spell, two digits for each
abbrev pub hex_pairs : List ℕ → Option (List ℕ)
hex_pairs [] = Some []
hex_pairs (c ∷ []) = None
hex_pairs (high ∷ low ∷ rest) = do
  h ← hex_digit_of high
  l ← hex_digit_of low
  bytes ← hex_pairs rest
  Some ((16 * h + l) ∷ bytes)

-- the bytes that a word spells, one or more
unfoldable pub bytes_of_hex : List ℕ → Option (List ℕ)
bytes_of_hex [] = None
bytes_of_hex (c ∷ cs) = hex_pairs (c ∷ cs)

-- ---- a field, and the words after it

-- a number up to a limit, and the words after it
unfoldable pub number_field : ℕ → List (List ℕ) → Option (ℕ × List (List ℕ))
number_field limit [] = None
number_field limit (word ∷ rest) = do
  n ← number_up_to limit word
  Some (n, rest)

-- a page, and the words after it
unfoldable pub page_field : List (List ℕ) → Option (PageId × List (List ℕ))
page_field [] = None
page_field (word ∷ rest) = do
  page ← page_of_word word
  Some (page, rest)

-- a page, or nothing if the line ends before it
unfoldable pub after_field : List (List ℕ) → Option (Option PageId × List (List ℕ))
after_field [] = Some (None, [])
after_field (word ∷ rest) = do
  page ← page_of_word word
  Some (Some page, rest)

-- a slot, and the words after it
unfoldable pub slot_field : List (List ℕ) → Option (Slot × List (List ℕ))
slot_field [] = None
slot_field (word ∷ rest) = do
  slot ← slot_of_word word
  Some (slot, rest)

-- bytes, and the words after them
unfoldable pub bytes_field : List (List ℕ) → Option (List ℕ × List (List ℕ))
bytes_field [] = None
bytes_field (word ∷ rest) = do
  bytes ← bytes_of_hex word
  Some (bytes, rest)

-- a replica's number, and the words after it
abbrev pub replica_field : List (List ℕ) → Option (ℕ × List (List ℕ))
replica_field fields = number_field 65535 fields

-- a worker's number, and the words after it
abbrev pub worker_field : List (List ℕ) → Option (ℕ × List (List ℕ))
worker_field fields = number_field 65535 fields

-- a bucket's number, and the words after it
abbrev pub bucket_field : List (List ℕ) → Option (ℕ × List (List ℕ))
bucket_field fields = number_field (BUCKETS - 1) fields

-- a number of pages or bytes, or the offset of a byte
abbrev pub count_field : List (List ℕ) → Option (ℕ × List (List ℕ))
count_field fields = number_field 4294967295 fields

-- a time, or the number of a message
abbrev pub u64_field : List (List ℕ) → Option (ℕ × List (List ℕ))
u64_field fields = number_field 18446744073709551615 fields
