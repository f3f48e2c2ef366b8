-- The steps of a pin and of a load.
use Rattle.std.specs.Prelude.{ℕ, ◌≡◌, false, List, Option, Some, ◌+◌, ◌-◌, ◌^◌, set, Result, IfOk}
use Rattle.warm_stamps.specs.declared.PageId.{PageId}
use Rattle.warm_history.specs.Histories.{HistoryView}
use Rattle.warm_frame_table.specs.Frames.{nth_frame}
use Rattle.warm_pool.specs.declared.slot.Slot.{Slot}
use Rattle.warm_pool.specs.declared.slot.Placed.{Placed}
use Rattle.warm_pool.specs.declared.fault.PoolFault.{PoolFault}
use Rattle.warm_pool.specs.declared.fault.PoolFault.TheVariants.{ReadFault, WriteBack, FixesFull}
use Rattle.warm_rank.specs.declared.RankKey.{RankKey}
use Rattle.warm_devices.specs.Device.{DeviceState}
use Rattle.warm_pool.specs.DeviceCalls.{failed_at}
use Rattle.warm_pool.specs.Unchanged.{FailsAt, KeepsContents}
use Rattle.warm_pool.specs.Pinning.{AddsFix, IsFrameToLoad, PutsIn, TakesFrame}
use Rattle.warm_pool.specs.State.{PoolState, RankedBy}
use Rattle.warm_pool.specs.View.{view_of}
use Rattle.warm_pool.specs.WritingBack.{WaitsFor}
use Rattle.warm_pool.specs.steps.WritingBack.{WriteFails}

-- the slot of a frame's current page
abbrev pub current_slot : PoolState → ℕ → Slot
current_slot s i = record { index = i; generation = (nth_frame s.frames i).generation }

-- if the pin succeeded, the page of the frame has one more
abbrev pub FixesPage : PoolState → ℕ → Result Placed PoolFault → PoolState → Type 0
FixesPage old i result new =
    (p : PageId) → (nth_frame old.frames i).page ≡ Some p
    → IfOk result (λ placed. AddsFix (view_of old) p placed.slot (view_of new))

-- the frame's pin count is the greatest, and nothing has changed
abbrev pub FixRefused : PoolState → ℕ → PoolFault → PoolState → Type 0
FixRefused old i fault new = (fault ≡ FixesFull) × ((nth_frame old.frames i).fixes ≡ 2 ^ 32 - 1)
    × (new ≡ old)

-- the frame into which a page is loaded, according to every history that ranks the pool
abbrev pub IsNextFrameToLoad : PoolState → Option ℕ → Type 0
IsNextFrameToLoad s frame = (h : HistoryView) → RankedBy s h → IsFrameToLoad h (view_of s) frame

-- The page is in the frame, with its device's bytes, this rank and this pin count. `before` are the
-- devices before the write of the page that was in the frame.
pub record LoadsInto (old : PoolState) (before : List DeviceState) (i : ℕ) (p : PageId)
    (key : RankKey) (n : ℕ) (new : PoolState) : Type 0 where
  pub bytes : List ℕ
  pub frames : new.frames
      ≡ set old.frames i (record {
        page = Some p;
        key = Some key;
        generation = (nth_frame old.frames i).generation + 1;
        fixes = n;
        dirty = false;
        bytes = bytes;
      })
  pub devices : (nth_frame old.frames i).dirty ≡ false → new.devices ≡ before
  pub waits : WaitsFor old i new.devices
  pub rest : view_of new
      ≡ record (view_of old) { frames = (view_of new).frames; contents = (view_of new).contents }
  pub contents : KeepsContents (view_of old) (view_of new)

-- a page that was in no frame was put into one, and the page that was there was evicted
pub record PutsPlaced (h : HistoryView) (p : PageId) (fixes : ℕ) (old : PoolState)
    (placed : Placed) (new : PoolState) : Type 0 where
  pub put : PutsIn h (view_of old) p fixes placed.slot (view_of new)
  pub evicted : placed.evicted ≡ (nth_frame old.frames placed.slot.index).page
  pub frame : TakesFrame old p placed.slot new

-- the page was not read: a failure of its device is counted, and nothing else has changed
pub record ReadFails (old : PoolState) (p : PageId) (new : PoolState) : Type 0 where
  pub frames : new.frames ≡ old.frames
  pub devices : new.devices ≡ failed_at p.dev old.devices
  pub fails : FailsAt (view_of old) p.dev (view_of new)

-- the read of the page failed, or the write of the frame's page failed; `before` are the devices
-- before that write
abbrev pub FetchFails : PoolState → List DeviceState → ℕ → PageId → PoolFault → PoolState → Type 0
FetchFails old before i p ReadFault new = ReadFails old p new
FetchFails old before i p WriteBack new = WriteFails old before i new
FetchFails old before i p why new = ⊥
