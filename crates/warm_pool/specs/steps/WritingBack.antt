-- The steps of writing back: one frame, and the selected frames.
use Rattle.std.specs.Prelude.{ℕ, ◌≡◌, ◌≢◌, false, IsTrue, List, map, length, Option, Some, true}
use Rattle.std.specs.Prelude.{set, Result}
use Rattle.warm_stamps.specs.declared.PageId.{PageId}
use Rattle.warm_devices.specs.Device.{DeviceState}
use Rattle.warm_devices.specs.declared.fault.DeviceFault.{DeviceFault}
use Rattle.warm_frame_table.specs.declared.selection.Devices.{Devices}
use Rattle.warm_frame_table.specs.Frames.{FrameState, nth_frame}
use Rattle.warm_frame_table.specs.FrameSteps.{cleaned}
use Rattle.warm_frame_table.specs.Selection.{is_on, selects}
use Rattle.warm_pool.specs.DeviceCalls.{PageWrite}
use Rattle.warm_pool.specs.Unchanged.{FailsAt}
use Rattle.warm_pool.specs.State.{PoolState, nth_device}
use Rattle.warm_pool.specs.View.{view_of}
use Rattle.warm_pool.specs.WritingBack.{KeptDevices, WaitsFor, WritesBack, clean_if}
use Rattle.warm_pool.specs.WritingBack.{cleaned_selected}

-- if the frame has a dirty page, one call of its device wrote its bytes, with this result
abbrev pub WritesFrame : FrameState → List DeviceState → List DeviceState
    → Result (Unit {0}) DeviceFault → Type 0
WritesFrame f old new result =
    (p : PageId) → f.page ≡ Some p → f.dirty ≡ true → PageWrite old new p.dev p.no f.bytes result

-- The page of the frame is written back, and nothing has changed for a caller. The device of a page
-- that was written is unflushed until its next flush.
pub record Cleans (old : PoolState) (i : ℕ) (new : PoolState) : Type 0 where
  pub frames : new.frames ≡ set old.frames i (cleaned (nth_frame old.frames i))
  pub devices : KeptDevices old.frames old.devices new.devices
  pub untouched : (nth_frame old.frames i).dirty ≡ false → new.devices ≡ old.devices
  pub waits : WaitsFor old i new.devices
  pub failures : map (λ d. d.failures) new.devices ≡ map (λ d. d.failures) old.devices
  pub same : (new.page_size ≡ old.page_size) × (new.spare ≡ old.spare)

-- The write-back of the frame's page failed. Of the devices as they were before the write, only
-- that of the page has changed, and it is unflushed.
pub record WriteFails (old : PoolState) (before : List DeviceState) (i : ℕ) (new : PoolState)
    : Type 0 where
  pub page : PageId
  pub holds : (nth_frame old.frames i).page ≡ Some page
  pub dirty : (nth_frame old.frames i).dirty ≡ true
  pub frames : new.frames ≡ old.frames
  pub waits : (nth_device new.devices page.dev).waiting ≡ true
  pub others : (k : ℕ) → k ≢ page.dev → nth_device new.devices k ≡ nth_device before k
  pub fails : FailsAt (view_of old) page.dev (view_of new)

-- The write-back of the frame's page failed, and no device was called before. Of the devices only
-- that of the page has changed, and it is unflushed.
abbrev pub CleanFails : PoolState → ℕ → PoolState → Type 0
CleanFails old i new = WriteFails old old.devices i new

-- each device is unchanged but that of this page
abbrev pub KeepsDevicesBut : Option PageId → PoolState → PoolState → Type 0
KeepsDevicesBut page old new = (k : ℕ) → is_on k page ≡ false
    → nth_device new.devices k ≡ nth_device old.devices k

-- each device of which no page is selected is unchanged
abbrev pub KeepsUnselected : Devices → PoolState → PoolState → Type 0
KeepsUnselected which old new =
    (k : ℕ) → ((p : PageId) → p.dev ≡ k → selects which (Some p) ≡ false)
    → nth_device new.devices k ≡ nth_device old.devices k

-- the pages of all selected frames were written back
abbrev pub WritesBackAll : Devices → PoolState → PoolState → Type 0
WritesBackAll which old new =
    WritesBack (cleaned_selected which (length old.frames) old.frames) old new

-- the page of this frame was written back, if it is selected
abbrev pub WritesBackOne : Devices → PoolState → ℕ → PoolState → Type 0
WritesBackOne which old i new =
    WritesBack (set old.frames i (clean_if which (nth_frame old.frames i))) old new

-- the write of the page of a selected frame failed
abbrev pub SelectedFails : Devices → PoolState → ℕ → PoolState → Type 0
SelectedFails which old i new = IsTrue (selects which (nth_frame old.frames i).page)
    × CleanFails old i new
