-- Writing back: the page of one frame, those of the selected frames, and those of all frames.
use Rattle.std.specs.Prelude.{ℕ, ◌≡◌, ◌<◌, ◌≤◌, false, IsTrue, List, map, length}
use Rattle.std.specs.Prelude.{Some, if◌then◌else◌, true, ◌++◌, take, drop}
use Rattle.warm_stamps.specs.declared.PageId.{PageId}
use Rattle.warm_devices.specs.Device.{DeviceState, SameShape}
use Rattle.warm_frame_table.specs.declared.selection.Devices.{Devices}
use Rattle.warm_frame_table.specs.Frames.{FrameState, nth_frame}
use Rattle.warm_frame_table.specs.FrameSteps.{cleaned}
use Rattle.warm_frame_table.specs.Selection.{selects}
use Rattle.warm_pool.specs.State.{PoolState, nth_device, IsNowhere}
use Rattle.warm_pool.specs.View.{stored, view_of}
use Rattle.warm_pool.specs.Unchanged.{FailsAt}

-- All pages

-- the first n frames clean, the others unchanged
abbrev pub cleaned_to : ℕ → List FrameState → List FrameState
cleaned_to n frames = map cleaned (take n frames) ++ drop n frames

-- A call of a device failed, and nothing else has changed for a caller: either the write of the
-- first frame that is still dirty, or, after all writes, the flush of the first unflushed device.
pub record WriteBackFails (old new : PoolState) : Type 0 where
  pub written : ℕ
  pub device : ℕ
  pub frames : new.frames ≡ cleaned_to written old.frames
  pub first : written < length old.frames
      → ((nth_frame old.frames written).dirty ≡ true)
      × ((p : PageId) × ((nth_frame old.frames written).page ≡ Some p) × (p.dev ≡ device))
  pub all : length old.frames ≤ written
      → ((k : ℕ) → k < device → (nth_device new.devices k).waiting ≡ false)
      × ((nth_device new.devices device).waiting ≡ true)
  pub fails : FailsAt (view_of old) device (view_of new)

-- The page of one frame

-- The devices have the same shape as before, and the same bytes of each page that is in no frame,
-- or in a clean one.
pub record KeptDevices (frames : List FrameState) (old new : List DeviceState) : Type 0 where
  pub count : length new ≡ length old
  pub shape : (k : ℕ) → SameShape (nth_device old k) (nth_device new k)
  pub absent : (p : PageId) → IsNowhere frames p → stored new p ≡ stored old p
  pub clean : (i : ℕ) (p : PageId) → (nth_frame frames i).page ≡ Some p
      → (nth_frame frames i).dirty ≡ false → stored new p ≡ stored old p

-- if the frame is dirty, the device of its page is unflushed
abbrev pub WaitsFor : PoolState → ℕ → List DeviceState → Type 0
WaitsFor old i devices =
    (nth_frame old.frames i).dirty ≡ true → (p : PageId) → (nth_frame old.frames i).page ≡ Some p
    → (nth_device devices p.dev).waiting ≡ true

-- The selected frames: those of one device, of its last pages, or all

-- the frame; clean, if its page is selected
abbrev pub clean_if : Devices → FrameState → FrameState
clean_if which f = if selects which f.page then cleaned f else f

-- the frames, with the selected ones of the first n clean
abbrev pub cleaned_selected : Devices → ℕ → List FrameState → List FrameState
cleaned_selected which n frames = map (clean_if which) (take n frames) ++ drop n frames

-- the pages of frames were written back, and nothing has changed for a caller
pub record WritesBack (frames : List FrameState) (old new : PoolState) : Type 0 where
  pub becomes : new.frames ≡ frames
  pub devices : KeptDevices old.frames old.devices new.devices
  pub failures : map (λ d. d.failures) new.devices ≡ map (λ d. d.failures) old.devices
  pub same : (new.page_size ≡ old.page_size) × (new.spare ≡ old.spare)

-- the write of the page of one selected frame failed, those of the selected frames before it
-- succeeded
pub record StopsAt (which : Devices) (old new : PoolState) : Type 0 where
  pub frame : ℕ
  pub page : PageId
  pub there : frame < length old.frames
  pub holds : (nth_frame old.frames frame).page ≡ Some page
  pub selected : IsTrue (selects which (Some page))
  pub dirty : IsTrue (nth_frame old.frames frame).dirty
  pub frames : new.frames ≡ cleaned_selected which frame old.frames
  pub fails : FailsAt (view_of old) page.dev (view_of new)
