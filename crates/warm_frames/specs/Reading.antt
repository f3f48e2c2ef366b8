-- Reading a frame from left to right, up to the first fault.
use Rattle.std.specs.Prelude.{◌≡◌, ◌⊎◌, ℕ, zero, suc, ◌+◌, ◌*◌, ◌<◌, Bool, true, false, ◌&&◌, List}
use Rattle.std.specs.Prelude.{[], ◌∷◌, length, take, drop, Option, Some, None, Result, Ok, Err}
use Rattle.std.specs.Prelude.{nat_lt, nat_le, ◌==◌, if◌then◌else◌}
use Rattle.std.specs.Int.{Width, w16, w32, w64, byte_len, from_be_bytes}
use Rattle.std.specs.Ordering.{is_lt}
use Rattle.std.specs.Simd.{first_chunks}
use Rattle.warm_stamps.specs.declared.TheConstants.{BUCKETS, MAX_REPLICAS}
use Rattle.warm_stamps.specs.declared.Stamp.{Stamp}
use Rattle.warm_stamps.specs.declared.PageId.{PageId}
use Rattle.warm_stamps.specs.Bytes.{stamp_of, page_from_bytes, page_of_narrow}
use Rattle.warm_stamps.specs.Stamps.{stamp_cmp}
use Rattle.warm_history.specs.PageHist.{PageHist}
use Rattle.warm_history.specs.PageHist.TheVariants.{Once, Twice}
use Rattle.warm_history.specs.Entry.{Entry}
use Rattle.warm_history.specs.Carried.{comes_after}
use Rattle.warm_frames.specs.declared.format.Format.{Format}
use Rattle.warm_frames.specs.declared.format.Format.TheVariants.{Narrow, Wide}
use Rattle.warm_frames.specs.declared.layout.TheConstants.{MAGIC, NARROW_MAGIC}
use Rattle.warm_frames.specs.declared.layout.TheConstants.{NARROW_MAX_ENTRY_SIZE, MAX_ENTRY_SIZE}
use Rattle.warm_frames.specs.declared.layout.TheConstants.{MAX_ENTRIES, DIGEST_SIZE}
use Rattle.warm_frames.specs.declared.fault.FrameFault.{FrameFault}
use Rattle.warm_frames.specs.declared.fault.FrameFault.TheVariants.{Memory, Truncated, BadMagic}
use Rattle.warm_frames.specs.declared.fault.FrameFault.TheVariants.{BadKind, BadSender, BadLength}
use Rattle.warm_frames.specs.declared.fault.FrameFault.TheVariants.{BadCount, BadTag, BadStamp}
use Rattle.warm_frames.specs.declared.fault.FrameFault.TheVariants.{BadOrder}
use Rattle.warm_frames.specs.declared.message.Message.{Message}
use Rattle.warm_frames.specs.declared.message.Message.TheVariants as messages
use Rattle.warm_frames.specs.declared.reading.Kind.{Kind}
use Rattle.warm_frames.specs.declared.reading.Kind.TheVariants as kinds
use Rattle.warm_frames.specs.Encoding.{Encodes}
use Rattle.warm_frames.specs.Digests.{table_size}

infixl 10 ◌>>=◌
-- reading goes on with what was read so far; a fault ends it
abbrev pub ◌>>=◌ : {A B : Type 0} → Result A FrameFault → (A → Result B FrameFault)
    → Result B FrameFault
(Ok x) >>= f = f x
(Err e) >>= f = Err e

-- The result of a function, seen through view, is what reading gives.
abbrev pub IsReading : {X Y : Type 0} → (X → Y) → Result X FrameFault → Result Y FrameFault → Type 0
IsReading view (Ok x) read = read ≡ Ok (view x)
IsReading view (Err e) read = read ≡ Err e

-- A field of n bytes: a value and the bytes after it. If too few bytes are left, the fault is the
-- given one.
abbrev pub front_at : ℕ → FrameFault → List ℕ → Result (List ℕ × List ℕ) FrameFault
front_at n short bytes =
    if nat_lt (length bytes) n then Err short else Ok (take n bytes, drop n bytes)

-- a number of this width, its highest byte first
abbrev pub number_at : Width → FrameFault → List ℕ → Result (ℕ × List ℕ) FrameFault
number_at w short bytes = if nat_lt (length bytes) (byte_len w) then Err short
    else Ok (from_be_bytes w (take (byte_len w) bytes), drop (byte_len w) bytes)

-- a single byte
abbrev pub byte_at : FrameFault → List ℕ → Result (ℕ × List ℕ) FrameFault
byte_at short [] = Err short
byte_at short (b ∷ bytes) = Ok (b, bytes)

-- a test that must be true
abbrev pub want : Bool → FrameFault → Result Bool FrameFault
want true fault = Ok true
want false fault = Err fault

-- ---- the header

-- whether this is the number of a replica
abbrev pub is_replica : ℕ → Bool
is_replica n = nat_lt 0 n && nat_le n MAX_REPLICAS

-- the kind of message of this number
abbrev pub kind_of : ℕ → Result Kind FrameFault
kind_of zero = Err BadKind
kind_of (suc zero) = Ok kinds.Entries
kind_of (suc (suc zero)) = Ok kinds.Digest
kind_of (suc (suc (suc zero))) = Ok kinds.Want
kind_of (suc (suc (suc (suc n)))) = Err BadKind

-- the format of the magic number
abbrev pub format_of : ℕ → Result Format FrameFault
format_of letters = if letters == MAGIC then Ok Wide else if letters == NARROW_MAGIC then Ok Narrow
    else Err BadMagic

-- the most bytes of an entry
abbrev pub entry_size : Format → ℕ
entry_size Narrow = NARROW_MAX_ENTRY_SIZE
entry_size Wide = MAX_ENTRY_SIZE

-- the valid body lengths of a frame of this kind
abbrev pub may_have : Format → Kind → ℕ → Bool
may_have format kinds.Entries len = nat_le 4 len && nat_le len (4 + entry_size format * MAX_ENTRIES)
may_have format kinds.Digest len = len == table_size
may_have format kinds.Want len = len == 8

-- a header as far as the horizon
pub record Start : Type 0 where
  pub format : Format
  pub kind : Kind
  pub sender : ℕ
  pub horizon : ℕ

-- the horizon, and what follows; a format without a horizon field has horizon 0
abbrev pub horizon_at : Format → List ℕ → Result (ℕ × List ℕ) FrameFault
horizon_at Narrow bytes = Ok (0, bytes)
horizon_at Wide bytes = number_at w64 Truncated bytes

-- the magic number, the kind, the sender and the horizon, and what follows
unfoldable pub start_at : List ℕ → Result (Start × List ℕ) FrameFault
start_at bytes = do
  letters ← number_at w32 Truncated bytes
  format ← format_of letters.0
  number ← byte_at Truncated letters.1
  kind ← kind_of number.0
  sender ← number_at w16 Truncated number.1
  good ← want (is_replica sender.0) BadSender
  horizon ← horizon_at format sender.1
  Ok (record { format = format; kind = kind; sender = sender.0; horizon = horizon.0 }, horizon.1)

-- the length, if it is valid for the kind, and what follows
unfoldable pub length_at : Format → Kind → List ℕ → Result (ℕ × List ℕ) FrameFault
length_at format kind bytes = do
  len ← number_at w32 Truncated bytes
  allowed ← want (may_have format kind len.0) BadLength
  Ok len

-- a body of this length, which is all that is left
abbrev pub whole_body : ℕ → List ℕ → Result (List ℕ) FrameFault
whole_body len rest = do
  enough ← want (nat_le len (length rest)) Truncated
  exact ← want (nat_le (length rest) len) BadLength
  Ok rest

-- the length, and the body, which is all that follows
unfoldable pub body_at : Format → Kind → List ℕ → Result (List ℕ) FrameFault
body_at format kind bytes = do
  len ← length_at format kind bytes
  whole_body len.0 len.1

-- ---- entries

-- a stamp in ten bytes
abbrev pub stamp_in : List ℕ → Result Stamp FrameFault
stamp_in ten = if is_replica (stamp_of ten).replica then Ok (stamp_of ten) else Err BadStamp

-- two stamps in ten bytes each, of which the second is older
unfoldable pub two_in : List ℕ → List ℕ → Result PageHist FrameFault
two_in later earlier = do
  last ← stamp_in later
  prev ← stamp_in earlier
  older ← want (is_lt (stamp_cmp prev last)) BadStamp
  Ok (Twice (record { last = last; prev = prev }))

-- What follows a tag. The bytes of both stamps must be present before either is checked.
unfoldable pub hist_at : ℕ → List ℕ → Result (PageHist × List ℕ) FrameFault
hist_at zero bytes = Err BadTag
hist_at (suc zero) bytes = do
  last ← front_at 10 BadLength bytes
  stamp ← stamp_in last.0
  Ok (Once stamp, last.1)
hist_at (suc (suc zero)) bytes = do
  last ← front_at 10 BadLength bytes
  prev ← front_at 10 BadLength last.1
  two ← two_in last.0 prev.0
  Ok (two, prev.1)
hist_at (suc (suc (suc n))) bytes = Err BadTag

-- a page, of ten bytes or, in the narrow format, of six
unfoldable pub read_page : Format → List ℕ → Result (PageId × List ℕ) FrameFault
read_page Narrow bytes = do
  six ← front_at 6 BadLength bytes
  Ok (page_of_narrow six.0, six.1)
read_page Wide bytes = do
  ten ← front_at 10 BadLength bytes
  Ok (page_from_bytes ten.0, ten.1)

-- an entry whose page is greater than the one before
unfoldable pub entry_at : Format → Option PageId → List ℕ → Result (Entry × List ℕ) FrameFault
entry_at format before bytes = do
  page ← read_page format bytes
  greater ← want (comes_after before page.0) BadOrder
  tag ← byte_at BadLength page.1
  hist ← hist_at tag.0 tag.1
  Ok (record { page = page.0; hist = hist.0 }, hist.1)

-- an entry of this page, with the history that was read
abbrev pub entry_with : PageId → Result (PageHist × List ℕ) FrameFault
    → Result (Entry × List ℕ) FrameFault
entry_with page read = do
  hist ← read
  Ok (record { page = page; hist = hist.0 }, hist.1)

-- an entry as it is written
abbrev pub written_entry_at : Option PageId → List ℕ → Result (Entry × List ℕ) FrameFault
written_entry_at before bytes = entry_at Wide before bytes

-- this many entries
unfoldable pub entries_at : Format → ℕ → Option PageId → List ℕ
    → Result (List Entry × List ℕ) FrameFault
entries_at format zero before bytes = Ok ([], bytes)
entries_at format (suc n) before bytes = do
  first ← entry_at format before bytes
  later ← entries_at format n (Some first.0.page) first.1
  Ok (first.0 ∷ later.0, later.1)

-- this many entries; no page comes before the first
abbrev pub entries_from : Format → ℕ → List ℕ → Result (List Entry × List ℕ) FrameFault
entries_from format count bytes = entries_at format count None bytes

-- the number of entries of a body, and what follows the count
unfoldable pub count_at : List ℕ → Result (ℕ × List ℕ) FrameFault
count_at body = do
  count ← number_at w32 BadLength body
  few ← want (nat_le count.0 MAX_ENTRIES) BadCount
  Ok count

-- all of these bytes as this many entries
unfoldable pub all_entries : Format → ℕ → List ℕ → Result (List Entry) FrameFault
all_entries format count bytes = do
  entries ← entries_from format count bytes
  ended ← want (length entries.1 == 0) BadLength
  Ok entries.0

-- a body of entries: their number, and as many of them, which are all that is left
unfoldable pub read_entries : Format → List ℕ → Result (List Entry) FrameFault
read_entries format body = do
  count ← count_at body
  all_entries format count.0 count.1

-- ---- frames

-- a table of digests
unfoldable pub read_digests : List ℕ → Result (List (List ℕ)) FrameFault
read_digests body =
    if length body == table_size then Ok (first_chunks DIGEST_SIZE BUCKETS body) else Err BadLength

-- the message of this kind, sender and horizon that a body has
abbrev pub message_by : Kind → Format → ℕ → ℕ → List ℕ → Result Message FrameFault
message_by kinds.Entries format sender horizon body = do
  entries ← read_entries format body
  Ok (messages.Entries sender horizon entries)
message_by kinds.Digest format sender horizon body = do
  digests ← read_digests body
  Ok (messages.Digest sender horizon digests)
message_by kinds.Want format sender horizon body = do
  request ← number_at w64 BadLength body
  Ok (messages.Want sender horizon request.0)

-- the message of a header and a body
unfoldable pub read_message : Start → List ℕ → Result Message FrameFault
read_message start body = message_by start.kind start.format start.sender start.horizon body

-- the message of a whole frame
unfoldable pub read_frame : List ℕ → Result Message FrameFault
read_frame bytes = do
  start ← start_at bytes
  body ← body_at start.0.format start.0.kind start.1
  read_message start.0 body

-- the number of entries of a body for which capacity is reserved
abbrev pub entries_reserved : List ℕ → Result ℕ FrameFault
entries_reserved body = do
  count ← count_at body
  Ok count.0

-- the number of entries for which capacity is reserved: 0, unless the body is one of entries
abbrev pub reserved_in : Kind → List ℕ → Result ℕ FrameFault
reserved_in kinds.Entries body = entries_reserved body
reserved_in kinds.Digest body = Ok 0
reserved_in kinds.Want body = Ok 0

-- the number of entries for which capacity is reserved: 0, unless a frame of entries was read up to
-- its count
unfoldable pub reserved_by : List ℕ → Result ℕ FrameFault
reserved_by bytes = do
  start ← start_at bytes
  body ← body_at start.0.format start.0.kind start.1
  reserved_in start.0.kind body

-- capacity is reserved, for at least one entry
abbrev pub Reserves : Result ℕ FrameFault → Type 0
Reserves reserved = (n : ℕ) × (0 < n) × (reserved ≡ Ok n)

-- A function returned what reading gives or, if it reserves capacity, that the allocation failed.
abbrev pub GivesReading : {X : Type 0} → Result X FrameFault → Result X FrameFault
    → Result ℕ FrameFault → Type 0
GivesReading result read reserved = (result ≡ read) ⊎ ((result ≡ Err Memory) × Reserves reserved)

-- The message that the bytes encode, if they encode one, was returned, unless the allocation
-- failed.
abbrev pub FindsEncoded : List ℕ → Result Message FrameFault → Type 0
FindsEncoded bytes result = (message : Message) → Encodes bytes message
    → GivesReading result (Ok message) (reserved_by bytes)
