-- Lending the bytes of a body.
use Rattle.std.specs.Prelude.{ℕ, List, [], slice_index_or}
use Rattle.std.specs.Borrow.{Lends, MutBor, Fml, Array, RattleType, u8}
use Rattle.std.specs.Vec.{with_item}
use Rattle.std_alloc.specs.contracts.vec.Vec.{the_row as vec_row}
use Rattle.std.specs.contracts.alloc.Global.{the_row as global_row}
use Rattle.std.specs.contracts.impls.GlobalAllocator.TheImpl.{ghosts as heap}
use Rattle.warm_frame_table.specs.Lending.{refilled}
use Rattle.warm_frame_table.specs.contracts.frame.Frame.{the_row as frame_row}
use Rattle.warm_frame_table.specs.stored.Parts.{FrameBody, fresh_body}

-- the body after w was left in its bytes
abbrev pub refilled_body : List ℕ → FrameBody → FrameBody
refilled_body w b = record b { bytes = refilled b.bytes w }

-- the bytes of a body are lent: what is left in them becomes its bytes
abbrev pub LendsBody : MutBor FrameBody → MutBor (List ℕ) → Fml
LendsBody s r = Lends frame_row (Array u8 0) s r (λ w. refilled_body w s.now)

-- a vector of bodies, as a type of Rattle
abbrev pub bodies_row : RattleType
bodies_row = vec_row frame_row global_row heap

-- the body of this frame, from 0
abbrev pub nth_body : List FrameBody → ℕ → FrameBody
nth_body bodies i = slice_index_or bodies i (fresh_body [])

-- the bytes of one of the bodies are lent: what is left in them becomes its bytes
abbrev pub LendsBodyOf : MutBor bodies_row.Denot → ℕ → MutBor (List ℕ) → Fml
LendsBodyOf s i r =
    Lends bodies_row (Array u8 0) s r
    (λ w. with_item s.now i (refilled_body w (nth_body s.now.items i)))
