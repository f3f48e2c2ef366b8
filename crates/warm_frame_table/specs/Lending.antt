-- Lending the bytes of a frame, to be written to.
use Rattle.std.specs.Prelude.{ℕ, ◌++◌, true, List, length, take, drop}
use Rattle.std.specs.Borrow.{Lends, MutBor, Fml, Array, u8}
use Rattle.warm_frame_table.specs.Frames.{FrameState, FramesState}
use Rattle.warm_frame_table.specs.FrameSteps.{changed_at}
use Rattle.warm_frame_table.specs.contracts.frames.Frames.{the_row as frames_row}

-- As many bytes as there were before: those of w, and then the old ones. Lent bytes keep their
-- length, so w is as long as the old bytes, and these are w.
abbrev pub refilled : List ℕ → List ℕ → List ℕ
refilled old w = take (length old) (w ++ drop (length w) old)

-- the frame, dirty, after w was left in the bytes that were lent
abbrev pub relent : List ℕ → FrameState → FrameState
relent w f = record f { dirty = true; bytes = refilled f.bytes w }

-- the bytes of one frame are lent: what is left in them becomes its bytes, and it is dirty
abbrev pub LendsFrame : MutBor FramesState → ℕ → MutBor (List ℕ) → Fml
LendsFrame s i r = Lends frames_row (Array u8 0) s r (λ w. changed_at s.now i (relent w))
