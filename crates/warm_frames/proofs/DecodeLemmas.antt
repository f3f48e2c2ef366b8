-- What an answer of decode says of the bytes.
use Rattle.std.proofs.Common.{ℕ, List, Result, Ok, Err, sym, subst, inl, inr}
use Rattle.std.specs.Prelude.{IfOk}
use Rattle.warm_stamps.proofs.ByteLemmas.{IsBytes}
use Rattle.warm_frames.specs.declared.fault.FrameFault.{FrameFault}
use Rattle.warm_frames.specs.declared.message.Message.{Message}
use Rattle.warm_frames.specs.Encoding.{Encodes}
use Rattle.warm_frames.specs.Reading.{GivesReading, read_frame}
use Rattle.warm_frames.proofs.FrameLemmas.{frame_encodes, frame_read}

-- the bytes encode a message that was returned
pub decoded_encodes : (bytes : List ℕ) (result : Result Message FrameFault)
    (room : Result ℕ FrameFault) → IsBytes bytes → GivesReading result (read_frame bytes) room
    → IfOk result (λ f. Encodes bytes f)
decoded_encodes bytes (Ok f) room fits (inl is) = frame_encodes bytes f fits (sym is)
decoded_encodes bytes (Ok f) room fits (inr none) = absurd (cc none.0)
decoded_encodes bytes (Err e) room fits given = tt

-- a message that the bytes encode was returned, or an allocation failed
pub encoded_decodes : (bytes : List ℕ) (result : Result Message FrameFault)
    (room : Result ℕ FrameFault) → GivesReading result (read_frame bytes) room → (f : Message)
    → Encodes bytes f → GivesReading result (Ok f) room
encoded_decodes bytes result room given f encodes = subst (λ (read : Result Message FrameFault). GivesReading result read room) (frame_read bytes f encodes) given
