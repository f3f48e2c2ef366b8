-- Messages in a stream of frames that is given in pieces.
use Rattle.std.specs.Prelude.{◌≡◌, ◌⊎◌, ℕ, ◌+◌, ◌*◌, ◌<◌, ◌≤◌, Bool, true, false, List, [], ◌∷◌}
use Rattle.std.specs.Prelude.{◌++◌, length, take, ⊤, Option, Some, None, option_to_list, Result, Ok}
use Rattle.std.specs.Prelude.{Err}
use Rattle.std.specs.List.{flat_map}
use Rattle.warm_frames.specs.declared.layout.TheConstants.{MAX_ENTRY_SIZE, MAX_ENTRIES, HEADER_SIZE}
use Rattle.warm_frames.specs.declared.decoder.Fed.{Fed}
use Rattle.warm_frames.specs.declared.fault.FrameFault.{FrameFault}
use Rattle.warm_frames.specs.declared.fault.FrameFault.TheVariants.{Memory, Truncated, Failed}
use Rattle.warm_frames.specs.declared.message.Message.{Message}
use Rattle.warm_frames.specs.Faults.{fault_code}
use Rattle.warm_frames.specs.Reading.{read_frame}
use Rattle.warm_frames.specs.Sizes.{SaysSize}
use Rattle.warm_frames.specs.Encoding.{Encodes}

-- The state of a decoder: inside a frame of which these bytes have come (none between two frames),
-- or after a fault.
pub data DecoderState : Type 0 where
  Inside : (begun : List ℕ) → DecoderState
  Broken : DecoderState

-- the state of a decoder that holds these bytes
abbrev pub state_of : Bool → List ℕ → DecoderState
state_of true held = Broken
state_of false held = Inside held

-- The bytes are a part of a frame: reading them, or any prefix of them, gives `Truncated`.
abbrev pub IsIncomplete : List ℕ → Type 0
IsIncomplete bytes = (n : ℕ) → read_frame (take n bytes) ≡ Err Truncated

-- the size of the longest frame: a header, a count, and MAX_ENTRIES entries of the greatest size
abbrev pub longest_frame : ℕ
longest_frame = HEADER_SIZE + 4 + MAX_ENTRY_SIZE * MAX_ENTRIES

-- the faults that no further byte repairs, BadMagic to BadOrder
abbrev pub IsLasting : FrameFault → Type 0
IsLasting fault = (3 ≤ fault_code fault) × (fault_code fault ≤ 10)

-- The bytes have a fault, known at their last byte and not before.
pub record ShowsFault (bytes : List ℕ) (fault : FrameFault) : Type 0 where
  pub read : read_frame bytes ≡ Err fault
  pub lasting : IsLasting fault
  pub not_before : (n : ℕ) → n < length bytes → read_frame (take n bytes) ≡ Err Truncated

-- The whole piece was consumed, and the frame isn't complete yet; or bytes were consumed up to the
-- end of a frame, and its message is returned.
abbrev pub TakesPiece : List ℕ → List ℕ → ℕ → Option Message → DecoderState → Type 0
TakesPiece begun piece taken None new = (taken ≡ length piece) × IsIncomplete (begun ++ piece)
    × (new ≡ Inside (begun ++ piece))
TakesPiece begun piece taken (Some message) new = (taken ≤ length piece)
    × Encodes (begun ++ take taken piece) message × (new ≡ Inside [])

-- a byte of the piece shows the fault
abbrev pub Breaks : List ℕ → List ℕ → FrameFault → DecoderState → Type 0
Breaks begun piece fault new = (n : ℕ) × (n ≤ length piece)
    × ShowsFault (begun ++ take n piece) fault × (new ≡ Broken)

-- Feeding a piece, by the answer. An allocation failure changes nothing, and after a fault nothing
-- is consumed.
abbrev pub FeedStep : DecoderState → List ℕ → Result Fed FrameFault → DecoderState → Type 0
FeedStep (Inside begun) piece (Ok fed) new = TakesPiece begun piece fed.taken fed.message new
FeedStep (Inside begun) piece (Err fault) new = ((fault ≡ Memory) × (new ≡ Inside begun))
    ⊎ Breaks begun piece fault new
FeedStep Broken piece answer new = (answer ≡ Err Failed) × (new ≡ Broken)

-- a decoder inside a frame knows this of the frame's size, given the piece
abbrev pub KnowsWith : DecoderState → List ℕ → Option ℕ → Type 0
KnowsWith (Inside begun) piece size = SaysSize begun piece (Ok size)
KnowsWith Broken piece size = ⊥

-- Decoding the frame that consists of the bytes held and those at its end. An allocation failure
-- leaves the bytes held unchanged.
abbrev pub DecodesWith : List ℕ → List ℕ → Result Message FrameFault → List ℕ → Type 0
DecodesWith held end result new = (result ≡ read_frame (held ++ end))
    ⊎ ((result ≡ Err Memory) × (new ≡ held))

-- whether a stream may end here: between two frames alone
abbrev pub finish_of : DecoderState → Result (Unit {0}) FrameFault
finish_of (Inside []) = Ok tt
finish_of (Inside (b ∷ begun)) = Err Truncated
finish_of Broken = Err Failed

-- ---- pieces one after the other

-- a piece, and the answer to it
pub record Feeding : Type 0 where
  pub piece : List ℕ
  pub answer : Result Fed FrameFault

-- the bytes of a piece that were consumed
abbrev pub bytes_taken : List ℕ → Result Fed FrameFault → List ℕ
bytes_taken piece (Ok fed) = take fed.taken piece
bytes_taken piece (Err fault) = []

-- the bytes that were consumed of all these pieces
abbrev pub taken_in : List Feeding → List ℕ
taken_in = flat_map (λ c. bytes_taken c.piece c.answer)

-- the message that was returned
abbrev pub message_given : Result Fed FrameFault → List Message
message_given (Ok fed) = option_to_list fed.message
message_given (Err fault) = []

-- the messages that were returned for all these pieces
abbrev pub messages_given : List Feeding → List Message
messages_given = flat_map (λ c. message_given c.answer)

-- pieces fed one after the other
abbrev pub Feedings : DecoderState → List Feeding → DecoderState → Type 0
Feedings old [] new = new ≡ old
Feedings old (c ∷ more) new = (next : DecoderState) × FeedStep old c.piece c.answer next
    × Feedings next more new

-- ---- streams

-- the texts encode the messages, one each
abbrev pub EncodeAll : List (List ℕ) → List Message → Type 0
EncodeAll [] [] = ⊤
EncodeAll [] (f ∷ fs) = ⊥
EncodeAll (t ∷ ts) [] = ⊥
EncodeAll (t ∷ ts) (f ∷ fs) = Encodes t f × EncodeAll ts fs

-- texts one after the other
abbrev pub texts_of : List (List ℕ) → List ℕ
texts_of [] = []
texts_of (t ∷ ts) = t ++ texts_of ts

-- the stream is the frames of these messages, then a part of a frame
pub record Splits (stream : List ℕ) (messages : List Message) (rest : List ℕ) : Type 0 where
  pub texts : List (List ℕ)
  pub whole : stream ≡ texts_of texts ++ rest
  pub each : EncodeAll texts messages
  pub part : IsIncomplete rest

-- the stream is the frames of these messages, then bytes that show this fault, then anything
pub record Fails (stream : List ℕ) (messages : List Message) (fault : FrameFault) : Type 0 where
  pub texts : List (List ℕ)
  pub bad : List ℕ
  pub later : List ℕ
  pub whole : stream ≡ texts_of texts ++ (bad ++ later)
  pub each : EncodeAll texts messages
  pub shown : ShowsFault bad fault
