-- The frames that a step is about: those with pages of one device, with its last pages, or all.
use Rattle.std.specs.Prelude.{ℕ, ◌≡◌, ◌==◌, ◌&&◌, nat_le, Bool, true, false, IsTrue, List, map}
use Rattle.std.specs.Prelude.{Option, Some, None, if◌then◌else◌}
use Rattle.warm_stamps.specs.declared.PageId.{PageId}
use Rattle.warm_frame_table.specs.declared.selection.Devices.{Devices}
use Rattle.warm_frame_table.specs.declared.selection.Devices.TheVariants.{All, One, PagesFrom}
use Rattle.warm_frame_table.specs.Frames.{FrameState, nth_frame}
use Rattle.warm_frame_table.specs.FrameSteps.{vacated}

-- the page is of this device
abbrev pub is_on : ℕ → Option PageId → Bool
is_on dev None = false
is_on dev (Some p) = p.dev == dev

-- the page is of this device, and has this number or a higher one
abbrev pub is_from : ℕ → ℕ → Option PageId → Bool
is_from dev first None = false
is_from dev first (Some p) = (p.dev == dev) && nat_le first p.no

-- whether a frame with this page is selected: all frames are, if no device is named
abbrev pub selects : Devices → Option PageId → Bool
selects All page = true
selects (One dev) page = is_on dev page
selects (PagesFrom dev first) page = is_from dev first page

-- each selected frame is clean
abbrev pub AreClean : Devices → List FrameState → Type 0
AreClean which frames = (i : ℕ) → IsTrue (selects which (nth_frame frames i).page)
    → (nth_frame frames i).dirty ≡ false

-- the frame; without its page, if that is selected
abbrev pub vacate_if : Devices → FrameState → FrameState
vacate_if which f = if selects which f.page then vacated f else f

-- the frames, with the selected ones vacated
abbrev pub vacated_selected : Devices → List FrameState → List FrameState
vacated_selected which frames = map (vacate_if which) frames
