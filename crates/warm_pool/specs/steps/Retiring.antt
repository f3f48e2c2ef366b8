-- The steps by which a pool is emptied, or a device retired.
use Rattle.std.specs.Prelude.{ℕ, ◌≡◌, ◌<◌, false, IsTrue, List, length}
use Rattle.warm_frame_table.specs.declared.selection.Devices.{Devices}
use Rattle.warm_frame_table.specs.declared.selection.Devices.TheVariants.{One}
use Rattle.warm_frame_table.specs.Frames.{FrameState, nth_frame}
use Rattle.warm_frame_table.specs.Selection.{selects}
use Rattle.warm_pool.specs.State.{PoolState, nth_device}
use Rattle.warm_pool.specs.steps.WritingBack.{WritesBackAll}

-- a selected frame has a pinned page
pub record IsFixedIn (which : Devices) (frames : List FrameState) : Type 0 where
  pub frame : ℕ
  pub there : frame < length frames
  pub selected : IsTrue (selects which (nth_frame frames frame).page)
  pub fixed : 0 < (nth_frame frames frame).fixes

-- no selected frame has a pinned page
abbrev pub AreUnfixed : Devices → List FrameState → Type 0
AreUnfixed which frames = (i : ℕ) → IsTrue (selects which (nth_frame frames i).page)
    → (nth_frame frames i).fixes ≡ 0

-- device dev may be replaced by one with pages of this size: none of its pages is pinned, they were
-- written back, and it is flushed
pub record PreparesRetire (old : PoolState) (dev page_size : ℕ) (new : PoolState) : Type 0 where
  pub there : dev < length old.devices
  pub size : page_size ≡ old.page_size
  pub unfixed : AreUnfixed (One dev) old.frames
  pub down : WritesBackAll (One dev) old new
  pub quiet : (nth_device new.devices dev).waiting ≡ false
