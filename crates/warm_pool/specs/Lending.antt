-- Lending the bytes of a page, to be written to.
use Rattle.std.specs.Prelude.{ℕ, List, set}
use Rattle.std.specs.Borrow.{Lends, MutBor, Fml, Array, RattleType, u8}
use Rattle.warm_devices.specs.declared.device.PageDevice.{Ghosts}
use Rattle.warm_frame_table.specs.Frames.{nth_frame}
use Rattle.warm_frame_table.specs.Lending.{relent}
use Rattle.warm_pool.specs.State.{PoolState}
use Rattle.warm_pool.specs.contracts.pool.Pool.{the_row}

-- the pool after w was left in the bytes of this frame
abbrev pub relent_pool : PoolState → ℕ → List ℕ → PoolState
relent_pool s i w = record s { frames = set s.frames i (relent w (nth_frame s.frames i)) }

-- The page of a frame is lent until r ends. What r then holds is the page's content, and the page
-- is dirty.
module _ (D : RattleType) (ghosts : Ghosts D.Denot) where
  abbrev pub LendsPage : MutBor PoolState → ℕ → MutBor (List ℕ) → Fml
  LendsPage s i r = Lends (the_row D ghosts) (Array u8 0) s r (λ w. relent_pool s.now i w)
