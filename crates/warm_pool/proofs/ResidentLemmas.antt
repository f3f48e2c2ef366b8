-- The resident pages that a caller sees are those that the frames have.
use Rattle.std.proofs.Common.{◌≡◌, List, [], ◌∷◌, map, refl, ap}
use Rattle.warm_frame_table.specs.Frames.{FrameState, pages_held}
use Rattle.warm_pool.specs.View.{FrameView, frame_view}

pub seen_held : (frames : List FrameState) → map (λ (f : FrameView). f.page) (map frame_view frames) ≡ pages_held frames
seen_held [] = refl
seen_held (f ∷ frames) = ap (λ rest. f.page ∷ rest) (seen_held frames)
