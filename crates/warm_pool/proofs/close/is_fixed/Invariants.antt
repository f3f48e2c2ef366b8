use Rattle.std.proofs.Common.{◌≡◌, ℕ, ◌<◌, IsTrue}
use Rattle.warm_frame_table.specs.Frames.{nth_frame}
use Rattle.warm_frame_table.specs.Selection.{selects}
use Rattle.warm_pool.proofs.close.is_fixed.Given as goal

abbrev pub invariant-loop-at : goal.invariant-loop-at
invariant-loop-at l = (i : ℕ) → i < l.at → IsTrue (selects l.which (nth_frame l.frames.frames i).page) → (nth_frame l.frames.frames i).fixes ≡ 0
