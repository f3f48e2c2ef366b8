-- The laws of the encoding, and of streams that are given in pieces.
use Rattle.std.specs.Prelude.{◌≡◌, ℕ, ◌<◌, List, [], ◌++◌, length}
use Rattle.warm_frames.specs.declared.fault.FrameFault.{FrameFault}
use Rattle.warm_frames.specs.declared.message.Message.{Message}
use Rattle.warm_frames.specs.Pieces.{Inside, Broken, IsIncomplete, longest_frame, ShowsFault}
use Rattle.warm_frames.specs.Pieces.{Breaks, Feeding, taken_in, messages_given, Feedings, Splits}
use Rattle.warm_frames.specs.Pieces.{Fails}
use Rattle.warm_frames.specs.Encoding.{Encodes}

-- the encoding is injective: no two messages share one
abbrev pub EncodingIsInjective : Type 0
EncodingIsInjective = (bytes : List ℕ) (f g : Message) → Encodes bytes f → Encodes bytes g → f ≡ g

-- the encoding is prefix-free: none is a proper prefix of another
abbrev pub PrefixFree : Type 0
PrefixFree = (text rest : List ℕ) (f g : Message) → Encodes text f → Encodes (text ++ rest) g
    → rest ≡ []

-- The bytes that a decoder consumed encode the messages that it returned, one after the other, and
-- are then the part of a frame that it holds.
abbrev pub InPieces : Type 0
InPieces = (calls : List Feeding) (rest : List ℕ) → Feedings (Inside []) calls (Inside rest)
    → Splits (taken_in calls) (messages_given calls) rest

-- If a decoder finds a fault in a piece, the stream up to the piece's end encodes the messages that
-- it returned, and is then bytes that show the fault.
abbrev pub FaultInPieces : Type 0
FaultInPieces = (calls : List Feeding) (begun piece : List ℕ) (fault : FrameFault)
    → Feedings (Inside []) calls (Inside begun) → Breaks begun piece fault Broken
    → Fails (taken_in calls ++ piece) (messages_given calls) fault

-- A stream has one list of messages and one rest, however it is cut into pieces.
abbrev pub OneReading : Type 0
OneReading = (stream : List ℕ) (fs gs : List Message) (r q : List ℕ) → Splits stream fs r
    → Splits stream gs q → (fs ≡ gs) × (r ≡ q)

-- A stream that is faulty has one fault, after one list of messages, however it is cut into pieces.
abbrev pub OneFault : Type 0
OneFault = (stream : List ℕ) (fs gs : List Message) (e d : FrameFault) → Fails stream fs e
    → Fails stream gs d → (fs ≡ gs) × (e ≡ d)

-- no stream both ends inside a frame and has a fault
abbrev pub PartOrFault : Type 0
PartOrFault = (stream : List ℕ) (fs gs : List Message) (r : List ℕ) (fault : FrameFault)
    → Splits stream fs r → Fails stream gs fault → ⊥

-- no frame begins with bytes that show a fault
abbrev pub FaultForGood : Type 0
FaultForGood = (bytes more : List ℕ) (fault : FrameFault) (f : Message) → ShowsFault bytes fault
    → Encodes (bytes ++ more) f → ⊥

-- a part of a frame is shorter than the longest frame
abbrev pub PartIsShort : Type 0
PartIsShort = (bytes : List ℕ) → IsIncomplete bytes → length bytes < longest_frame
