-- Writing back some pages, one page, and those of one device.
use Rattle.std.specs.Prelude.{ℕ, ◌≡◌, ◌≢◌, ◌<◌, ◌≤◌, ◌-◌, ◌==◌, Bool, true, false, IsTrue, List}
use Rattle.std.specs.Prelude.{length, take, set, Option, Some, None, Ok, Err, if◌then◌else◌, ◌⊎◌}
use Rattle.warm_stamps.specs.declared.PageId.{PageId}
use Rattle.warm_devices.specs.declared.fault.DeviceFault.TheVariants.{Write}
use Rattle.warm_frame_table.specs.declared.selection.Devices.TheVariants.{One}
use Rattle.warm_frame_table.specs.Frames.{FrameState, nth_frame, dirty_count}
use Rattle.warm_frame_table.specs.FrameSteps.{cleaned}
use Rattle.warm_frame_table.specs.Selection.{is_on}
use Rattle.warm_pool.specs.declared.dirty.DirtyFrame.{DirtyFrame}
use Rattle.warm_pool.specs.declared.fault.PoolFault.{PoolFault}
use Rattle.warm_pool.specs.declared.fault.PoolFault.TheVariants.{NoDevice, Fault}
use Rattle.warm_pool.specs.State.{PoolState, nth_device}
use Rattle.warm_pool.specs.View.{view_of}
use Rattle.warm_pool.specs.Calls.{FlushesNone}
use Rattle.warm_pool.specs.DeviceCalls.{PageWrite}
use Rattle.warm_pool.specs.Unchanged.{FailsAt}
use Rattle.warm_pool.specs.WritingBack.{StopsAt, WritesBack, cleaned_selected, cleaned_to}

-- The dirty pages

-- a frame has the page, and the page is dirty
pub record IsDirtyIn (s : PoolState) (page : PageId) (frame : ℕ) : Type 0 where
  pub there : frame < length s.frames
  pub holds : (nth_frame s.frames frame).page ≡ Some page
  pub dirty : (nth_frame s.frames frame).dirty ≡ true

-- the page is in some frame, and dirty
abbrev pub IsDirty : PoolState → PageId → Type 0
IsDirty s page = (frame : ℕ) × IsDirtyIn s page frame

-- the page in a frame, if it is dirty
abbrev pub IsDirtyPage : PoolState → ℕ → Option PageId → Type 0
IsDirtyPage s frame (Some page) = IsDirtyIn s page frame
IsDirtyPage s frame None = (nth_frame s.frames frame).dirty ≡ false

-- no frame from one number up to another, which is not included, is dirty
abbrev pub NoneDirty : List FrameState → ℕ → ℕ → Type 0
NoneDirty frames from upto =
    (i : ℕ) → from ≤ i → i < upto → (nth_frame frames i).dirty ≡ false

-- the first dirty frame from a number on, and its page; none if no frame from there on is dirty
abbrev pub IsNextDirty : PoolState → ℕ → Option DirtyFrame → Type 0
IsNextDirty s from (Some next) = (from ≤ next.frame) × NoneDirty s.frames from next.frame
    × IsDirtyIn s next.page next.frame
IsNextDirty s from None = NoneDirty s.frames from (length s.frames)

-- Some of them

-- The pages of the first frames, up to one, were written back, and nothing has changed for a
-- caller. Of these frames at most `limit` were dirty: exactly this many, unless these are all
-- frames. No device was flushed.
pub record CleansFirst (limit : ℕ) (old new : PoolState) : Type 0 where
  pub upto : ℕ
  pub within : upto ≤ length old.frames
  pub few : dirty_count (take upto old.frames) ≤ limit
  pub whole : upto < length old.frames → dirty_count (take upto old.frames) ≡ limit
  pub down : WritesBack (cleaned_to upto old.frames) old new
  pub unflushed : FlushesNone old.devices new.devices

-- The dirty pages of the first frames were written back: `limit` of them, or all if there are
-- fewer. `left` pages are still dirty. No device was flushed, and nothing has changed for a caller.
abbrev pub WritesBackSome : ℕ → PoolState → ℕ → PoolState → Type 0
WritesBackSome limit old left new = CleansFirst limit old new × (left ≡ dirty_count new.frames)

-- The write of the page of a dirty frame failed, after the pages of the frames before it were
-- written back, fewer than `limit`; the frame and those after it are unchanged. No device was
-- flushed.
pub record SomeFails (limit : ℕ) (old new : PoolState) : Type 0 where
  pub frame : ℕ
  pub page : PageId
  pub there : frame < length old.frames
  pub holds : (nth_frame old.frames frame).page ≡ Some page
  pub dirty : IsTrue (nth_frame old.frames frame).dirty
  pub below : dirty_count (take frame old.frames) < limit
  pub frames : new.frames ≡ cleaned_to frame old.frames
  pub fails : FailsAt (view_of old) page.dev (view_of new)
  pub unflushed : FlushesNone old.devices new.devices

-- how many more dirty pages may be written, after one frame; none if no more may
abbrev pub room_after : Bool → ℕ → Option ℕ
room_after dirty room = if dirty then (if room == 0 then None else Some (room - 1)) else Some room

-- One page

-- One call of its device wrote the bytes of the dirty page. Its frame is clean, and no other frame
-- has changed.
pub record CleansPage (old : PoolState) (page : PageId) (new : PoolState) : Type 0 where
  pub frame : ℕ
  pub was : IsDirtyIn old page frame
  pub wrote : PageWrite old.devices new.devices page.dev page.no
      (nth_frame old.frames frame).bytes (Ok tt)
  pub frames : new.frames ≡ set old.frames frame (cleaned (nth_frame old.frames frame))

-- The call of its device that writes the dirty page failed. No frame has changed, so the page is
-- dirty as before.
pub record PageFails (old : PoolState) (page : PageId) (new : PoolState) : Type 0 where
  pub frame : ℕ
  pub was : IsDirtyIn old page frame
  pub wrote : PageWrite old.devices new.devices page.dev page.no
      (nth_frame old.frames frame).bytes (Err Write)
  pub frames : new.frames ≡ old.frames
  pub fails : FailsAt (view_of old) page.dev (view_of new)

-- the page is in no frame, or in a clean one
abbrev pub IsNotDirty : PoolState → PageId → Type 0
IsNotDirty s page = (frame : ℕ) → (nth_frame s.frames frame).page ≡ Some page
    → (nth_frame s.frames frame).dirty ≡ false

-- whether the page was written: it was if it was dirty; otherwise nothing has changed
abbrev pub WritesBackPage : PoolState → PageId → Bool → PoolState → Type 0
WritesBackPage old page true new = CleansPage old page new
WritesBackPage old page false new = IsNotDirty old page × (new ≡ old)

-- Those of one device

-- no page of the device is dirty, and the device is not unflushed
pub record IsSettledOn (dev : ℕ) (s : PoolState) : Type 0 where
  pub clean : (i : ℕ) → IsTrue (is_on dev (nth_frame s.frames i).page)
      → (nth_frame s.frames i).dirty ≡ false
  pub flushed : (nth_device s.devices dev).waiting ≡ false

-- each other device is unchanged
abbrev pub KeepsOtherDevices : ℕ → PoolState → PoolState → Type 0
KeepsOtherDevices dev old new =
    (k : ℕ) → k ≢ dev → nth_device new.devices k ≡ nth_device old.devices k

-- the flush of the device failed, after all of its pages were written back
pub record StopsAtFlush (dev : ℕ) (old new : PoolState) : Type 0 where
  pub frames : new.frames ≡ cleaned_selected (One dev) (length old.frames) old.frames
  pub waits : (nth_device new.devices dev).waiting ≡ true
  pub fails : FailsAt (view_of old) dev (view_of new)

-- What a call of the device that failed leaves: the write of one of its pages failed, after those
-- of the frames before it; or its flush failed, and none of its pages is dirty.
abbrev pub StopsAtDevice : ℕ → PoolState → PoolState → Type 0
StopsAtDevice dev old new = StopsAt (One dev) old new ⊎ StopsAtFlush dev old new

-- why a device isn't flushed: there is none of this number, or a call of it failed
abbrev pub FlushRefused : PoolState → ℕ → PoolFault → PoolState → Type 0
FlushRefused old dev NoDevice new = (length old.devices ≤ dev) × (new ≡ old)
FlushRefused old dev Fault new = (dev < length old.devices)
    × FailsAt (view_of old) dev (view_of new) × StopsAtDevice dev old new
FlushRefused old dev why new = ⊥
