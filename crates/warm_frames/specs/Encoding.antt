-- The encodings of a message as a frame: one in each format that can hold it.
use Rattle.std.specs.Prelude.{◌≡◌, ℕ, ◌<◌, ◌^◌, List, [], ◌∷◌, ◌++◌, length, ⊤}
use Rattle.std.specs.List.{AllByRecursion, flat_map}
use Rattle.std.specs.Int.{w16, w32, w64, to_be_bytes}
use Rattle.warm_stamps.specs.Bytes.{IsReplica}
use Rattle.warm_history.specs.Entry.{Entry}
use Rattle.warm_frames.specs.declared.format.Format.{Format}
use Rattle.warm_frames.specs.declared.format.Format.TheVariants.{Narrow, Wide}
use Rattle.warm_frames.specs.declared.layout.TheConstants.{MAGIC, NARROW_MAGIC}
use Rattle.warm_frames.specs.declared.message.Message.{Message}
use Rattle.warm_frames.specs.declared.message.Message.TheVariants.{Entries, Digest, Want}
use Rattle.warm_frames.specs.Entries.{IsEntryList, entries_bytes_in}
use Rattle.warm_frames.specs.Digests.{IsDigestTable}

-- the valid messages
abbrev pub IsValidMessage : Message → Type 0
IsValidMessage (Entries sender horizon entries) = IsReplica sender × (horizon < 2 ^ 64)
    × IsEntryList entries
IsValidMessage (Digest sender horizon digests) = IsReplica sender × (horizon < 2 ^ 64)
    × IsDigestTable digests
IsValidMessage (Want sender horizon request) = IsReplica sender × (horizon < 2 ^ 64)
    × (request < 2 ^ 64)

-- the magic number of a format
abbrev pub magic_of : Format → ℕ
magic_of Narrow = NARROW_MAGIC
magic_of Wide = MAGIC

-- the horizon, if the format has one
abbrev pub horizon_bytes : Format → ℕ → List ℕ
horizon_bytes Narrow horizon = []
horizon_bytes Wide horizon = to_be_bytes w64 horizon

-- the magic number, the kind, the sender, the horizon and the length of the body
abbrev pub header_bytes : Format → ℕ → ℕ → ℕ → ℕ → List ℕ
header_bytes format kind sender horizon len = to_be_bytes w32 (magic_of format)
    ++ (kind ∷ (to_be_bytes w16 sender ++ (horizon_bytes format horizon ++ to_be_bytes w32 len)))

-- a frame: a header and the body
abbrev pub frame_bytes : Format → ℕ → ℕ → ℕ → List ℕ → List ℕ
frame_bytes format kind sender horizon body =
    header_bytes format kind sender horizon (length body) ++ body

-- The encoding of a message in a format, by its kind. The body of entries is their count and the
-- entries, that of digests is the digests one after the other, and that of a request is its number.
abbrev pub encoding_in : Format → Message → List ℕ
encoding_in format (Entries sender horizon entries) = frame_bytes format 1 sender horizon
    (to_be_bytes w32 (length entries) ++ entries_bytes_in format entries)
encoding_in format (Digest sender horizon digests) =
    frame_bytes format 2 sender horizon (flat_map (λ digest. digest) digests)
encoding_in format (Want sender horizon request) =
    frame_bytes format 3 sender horizon (to_be_bytes w64 request)

-- the encoding that is written
abbrev pub encoding : Message → List ℕ
encoding f = encoding_in Wide f

-- the numbers of all pages fit in 32 bits
abbrev pub AreNarrow : List Entry → Type 0
AreNarrow es = AllByRecursion (λ e. e.page.no < 2 ^ 32) es

-- the format can hold the message: the narrow one holds no horizon, and only page numbers of 32
-- bits
abbrev pub CanHold : Format → Message → Type 0
CanHold Wide f = ⊤
CanHold Narrow (Entries sender horizon entries) = (horizon ≡ 0) × AreNarrow entries
CanHold Narrow (Digest sender horizon digests) = horizon ≡ 0
CanHold Narrow (Want sender horizon request) = horizon ≡ 0

-- these bytes encode this message in a format
pub record EncodesIn (format : Format) (bytes : List ℕ) (message : Message) : Type 0 where
  pub fits : IsValidMessage message
  pub holds : CanHold format message
  pub text : bytes ≡ encoding_in format message

-- these bytes encode this message
abbrev pub Encodes : List ℕ → Message → Type 0
Encodes bytes message = (format : Format) × EncodesIn format bytes message
