-- The definitions, computed on small frames.
use Rattle.std.proofs.Common.{◌≡◌, ℕ, ◌+◌, ◌*◌, List, [], ◌∷◌, ◌++◌, take, Ok, Err, refl, arith}
use Rattle.warm_stamps.specs.declared.Stamp.{Stamp}
use Rattle.warm_history.specs.PageHist.TheVariants.{Once, Twice}
use Rattle.warm_history.specs.Entry.{Entry}
use Rattle.warm_frames.specs.declared.layout.TheConstants.{MAX_ENTRY_SIZE, MAX_ENTRIES}
use Rattle.warm_frames.specs.declared.format.Format.TheVariants.{Narrow}
use Rattle.warm_frames.specs.declared.fault.FrameFault.TheVariants.{Truncated, BadMagic, BadKind, BadSender, BadLength, BadCount, BadTag, BadStamp, BadOrder}
use Rattle.warm_frames.specs.declared.message.Message.TheVariants.{Entries, Want}
use Rattle.warm_frames.specs.Encoding.{encoding_in, encoding}
use Rattle.warm_frames.specs.Digests.{table_size}
use Rattle.warm_frames.specs.Limits.{SpeaksBy}
use Rattle.warm_frames.specs.Reading.{start_at, length_at, body_at, two_in, hist_at, read_page, entry_at, entries_at, count_at, all_entries, read_entries, read_message, read_frame}

abbrev at : ℕ → ℕ → Stamp
at time replica = record { time = time; replica = replica }

-- the page 0:n, with one stamp or two
abbrev once : ℕ → Stamp → Entry
once n s = record { page = record { dev = 0; no = n }; hist = Once s }

abbrev twice : ℕ → Stamp → Stamp → Entry
twice n last prev = record { page = record { dev = 0; no = n }; hist = Twice (record { last = last; prev = prev }) }

-- ---- sizes

-- the values of the limits: the greatest sizes of an entry and of a body of entries, and the size
-- of a body of digests
longest_entry_is : MAX_ENTRY_SIZE ≡ 31
longest_entry_is = refl

longest_body_is : 4 + MAX_ENTRY_SIZE * MAX_ENTRIES ≡ 31004
longest_body_is = refl

table_size_is : table_size ≡ 2048
table_size_is = refl

-- ---- encodings

abbrev letters : List ℕ
letters = 0x4C ∷ 0x32 ∷ 0x47 ∷ 0x31 ∷ []

-- 20@1 and 10@1
abbrev twenty : List ℕ
twenty = 0 ∷ 0 ∷ 0 ∷ 0 ∷ 0 ∷ 0 ∷ 0 ∷ 0x14 ∷ 0 ∷ 1 ∷ []

abbrev ten : List ℕ
ten = 0 ∷ 0 ∷ 0 ∷ 0 ∷ 0 ∷ 0 ∷ 0 ∷ 0x0A ∷ 0 ∷ 1 ∷ []

-- the page 0:n
abbrev page : ℕ → List ℕ
page n = 0 ∷ 0 ∷ 0 ∷ 0 ∷ 0 ∷ n ∷ []

-- a frame of entries: the sender, the length, the count, and the entries
abbrev entries_frame : ℕ → ℕ → ℕ → List ℕ → List ℕ
entries_frame sender len count text = letters ++ 1 ∷ 0 ∷ sender ∷ 0 ∷ 0 ∷ 0 ∷ len ∷ 0 ∷ 0 ∷ 0 ∷ count ∷ text

nothing_encoded : encoding_in Narrow (Entries 3 0 [])
    ≡ letters ++ 1 ∷ 0 ∷ 3 ∷ 0 ∷ 0 ∷ 0 ∷ 4 ∷ 0 ∷ 0 ∷ 0 ∷ 0 ∷ []
nothing_encoded = refl

two_stamps_encoded : encoding_in Narrow (Entries 1 0 (twice 7 (at 20 1) (at 10 1) ∷ []))
    ≡ entries_frame 1 0x1F 1 (page 7 ++ 2 ∷ (twenty ++ ten))
two_stamps_encoded = refl

request_encoded : encoding_in Narrow (Want 2 0 6)
    ≡ letters ++ 3 ∷ 0 ∷ 2 ∷ 0 ∷ 0 ∷ 0 ∷ 8 ∷ 0 ∷ 0 ∷ 0 ∷ 0 ∷ 0 ∷ 0 ∷ 0 ∷ 6 ∷ []
request_encoded = refl

-- the wide encoding of the request, and of an entry under a horizon
request_written : encoding (Want 2 0 6)
    ≡ 0x4C ∷ 0x32 ∷ 0x47 ∷ 0x32 ∷ 3 ∷ 0 ∷ 2 ∷ 0 ∷ 0 ∷ 0 ∷ 0 ∷ 0 ∷ 0 ∷ 0 ∷ 0 ∷ 0 ∷ 0 ∷ 0 ∷ 8 ∷ 0 ∷ 0
    ∷ 0 ∷ 0 ∷ 0 ∷ 0 ∷ 0 ∷ 6 ∷ []
request_written = refl

-- a page in ten bytes, its number's fourth byte from the end and its last
abbrev page_wide : ℕ → ℕ → List ℕ
page_wide high n = 0 ∷ 0 ∷ 0 ∷ 0 ∷ 0 ∷ high ∷ 0 ∷ 0 ∷ 0 ∷ n ∷ []

abbrev wide_frame : List ℕ → List ℕ
wide_frame text = 0x4C ∷ 0x32 ∷ 0x47 ∷ 0x32 ∷ 1 ∷ 0 ∷ 1 ∷ 0 ∷ 0 ∷ 0 ∷ 0 ∷ 0 ∷ 0 ∷ 0 ∷ 12 ∷ 0 ∷ 0 ∷ 0 ∷ 0x23 ∷ 0 ∷ 0 ∷ 0 ∷ 1 ∷ text

wide_written : encoding (Entries 1 12 (twice 7 (at 20 1) (at 10 1) ∷ []))
    ≡ wide_frame (page_wide 0 7 ++ 2 ∷ (twenty ++ ten))
wide_written = refl

wide_read : read_frame (wide_frame (page_wide 0 7 ++ 2 ∷ (twenty ++ ten)))
    ≡ Ok (Entries 1 12 (twice 7 (at 20 1) (at 10 1) ∷ []))
unfolding read_frame start_at length_at body_at read_message read_entries count_at all_entries entries_at entry_at read_page hist_at two_in
wide_read = refl

-- a page number above 32 bits is read
wide_page_read : read_frame (wide_frame (page_wide 1 0 ++ 2 ∷ (twenty ++ ten)))
    ≡ Ok (Entries 1 12 (twice 4294967296 (at 20 1) (at 10 1) ∷ []))
unfolding read_frame start_at length_at body_at read_message read_entries count_at all_entries entries_at entry_at read_page hist_at two_in
wide_page_read = refl

-- ---- readings

two_stamps_read : read_frame (entries_frame 1 0x1F 1 (page 7 ++ 2 ∷ (twenty ++ ten)))
    ≡ Ok (Entries 1 0 (twice 7 (at 20 1) (at 10 1) ∷ []))
unfolding read_frame start_at length_at body_at read_message read_entries count_at all_entries entries_at entry_at read_page hist_at two_in
two_stamps_read = refl

rising_read : read_frame (entries_frame 1 0x26 2 (page 7 ++ 1 ∷ (twenty ++ page 8 ++ 1 ∷ ten)))
    ≡ Ok (Entries 1 0 (once 7 (at 20 1) ∷ once 8 (at 10 1) ∷ []))
unfolding read_frame start_at length_at body_at read_message read_entries count_at all_entries entries_at entry_at read_page hist_at
rising_read = refl

nothing_read : read_frame (encoding (Entries 3 0 [])) ≡ Ok (Entries 3 0 [])
unfolding read_frame start_at length_at body_at read_message read_entries count_at all_entries entries_at
nothing_read = refl

request_read : read_frame (encoding (Want 2 0 6)) ≡ Ok (Want 2 0 6)
unfolding read_frame start_at length_at body_at read_message
request_read = refl

-- ---- first faults

no_bytes : read_frame [] ≡ Err Truncated
unfolding read_frame start_at
no_bytes = refl

other_letters : read_frame (0x4D ∷ 0x32 ∷ 0x47 ∷ 0x31 ∷ []) ≡ Err BadMagic
unfolding read_frame start_at
other_letters = refl

kind_4 : read_frame (letters ++ 4 ∷ []) ≡ Err BadKind
unfolding read_frame start_at
kind_4 = refl

sender_65 : read_frame (letters ++ 1 ∷ 0 ∷ 65 ∷ []) ≡ Err BadSender
unfolding read_frame start_at
sender_65 = refl

cut_short : read_frame (entries_frame 1 0x1F 1 (page 7 ++ 2 ∷ (twenty ++ take 9 ten)))
    ≡ Err Truncated
unfolding read_frame start_at length_at body_at
cut_short = refl

a_byte_more : read_frame (entries_frame 1 0x1F 1 (page 7 ++ 2 ∷ (twenty ++ ten ++ 0 ∷ [])))
    ≡ Err BadLength
unfolding read_frame start_at length_at body_at
a_byte_more = refl

count_1001 : read_frame (letters ++ 1 ∷ 0 ∷ 1 ∷ 0 ∷ 0 ∷ 0 ∷ 4 ∷ 0 ∷ 0 ∷ 3 ∷ 0xE9 ∷ [])
    ≡ Err BadCount
unfolding read_frame start_at length_at body_at read_message read_entries count_at
count_1001 = refl

count_2 : read_frame (entries_frame 1 0x1F 2 (page 7 ++ 2 ∷ (twenty ++ ten))) ≡ Err BadLength
unfolding read_frame start_at length_at body_at read_message read_entries count_at all_entries entries_at entry_at read_page hist_at two_in
count_2 = refl

tag_3 : read_frame (entries_frame 1 0x1F 1 (page 7 ++ 3 ∷ (twenty ++ ten))) ≡ Err BadTag
unfolding read_frame start_at length_at body_at read_message read_entries count_at all_entries entries_at entry_at read_page hist_at
tag_3 = refl

equal_stamps : read_frame (entries_frame 1 0x1F 1 (page 7 ++ 2 ∷ (twenty ++ twenty))) ≡ Err BadStamp
unfolding read_frame start_at length_at body_at read_message read_entries count_at all_entries entries_at entry_at read_page hist_at two_in
equal_stamps = refl

equal_pages : read_frame (entries_frame 1 0x26 2 (page 7 ++ 1 ∷ (twenty ++ page 7 ++ 1 ∷ ten)))
    ≡ Err BadOrder
unfolding read_frame start_at length_at body_at read_message read_entries count_at all_entries entries_at entry_at read_page hist_at
equal_pages = refl

-- ---- times against a limit

-- the latest time of this message is 20, that of its first stamp
speaks_by_20 : SpeaksBy 20 (Entries 1 12 (twice 7 (at 20 1) (at 10 1) ∷ []))
speaks_by_20 = record { horizon = omega arith; stamps = ((omega arith, (omega arith, tt)), tt) }

not_by_19 : SpeaksBy 19 (Entries 1 12 (twice 7 (at 20 1) (at 10 1) ∷ [])) → ⊥
not_by_19 speaks = omega (arith, speaks.stamps.0.0)

-- a request has no stamps, but a horizon
request_not_by_11 : SpeaksBy 11 (Want 1 12 6) → ⊥
request_not_by_11 speaks = omega (arith, speaks.horizon)
