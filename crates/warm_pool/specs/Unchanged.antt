-- What a call leaves unchanged in a pool.
use Rattle.std.specs.Prelude.{ℕ, ◌≡◌, ◌≢◌, ◌<◌, false, IsTrue, [], length, set}
use Rattle.warm_stamps.specs.declared.PageId.{PageId}
use Rattle.warm_history.specs.Histories.{HistoryView}
use Rattle.warm_devices.specs.Device.{one_more}
use Rattle.warm_frame_table.specs.Frames.{nth_frame}
use Rattle.warm_pool.specs.State.{PoolState, RankedBy}
use Rattle.warm_pool.specs.View.{PoolView, HasPage, IsResident, IsAbsent, device_at, contents_at}
use Rattle.warm_pool.specs.View.{failures_at}

-- What a caller sees

-- nothing but counts of failures has changed
abbrev pub SameButFailures : PoolView → PoolView → Type 0
SameButFailures old new = new ≡ record old { failures = new.failures }

-- a call of device k, which may fail, failed: its count of failures has increased, and nothing else
-- has changed
pub record FailsAt (old : PoolView) (k : ℕ) (new : PoolView) : Type 0 where
  pub there : k < length old.devices
  pub may : (device_at old k).unfailing ≡ false
  pub becomes : new ≡ record old { failures = set old.failures k (one_more (failures_at old k)) }

-- The pages of honest devices, and those resident before and after, have the same bytes as before.
-- A page of another device that isn't resident has no bytes here, and one that is resident has the
-- size of a page.
pub record KeepsContents (old new : PoolView) : Type 0 where
  pub honest : (p : PageId) → HasPage old p → IsTrue (device_at old p.dev).honest
      → contents_at new p ≡ contents_at old p
  pub resident : (p : PageId) → IsResident old p → IsResident new p
      → contents_at new p ≡ contents_at old p
  pub absent : (p : PageId) → (device_at new p.dev).honest ≡ false → IsAbsent new p
      → contents_at new p ≡ []
  pub sized : (p : PageId) → IsResident new p → length (contents_at new p) ≡ new.page_size

-- Ranks, frames and devices

-- every history that ranked the old pool ranks the new one
abbrev pub KeepsRanks : PoolState → PoolState → Type 0
KeepsRanks old new = (h : HistoryView) → RankedBy old h → RankedBy new h

-- the frames are unchanged
abbrev pub KeepsFrames : PoolState → PoolState → Type 0
KeepsFrames old new = new.frames ≡ old.frames

-- all frames but one are unchanged
abbrev pub KeepsOthers : ℕ → PoolState → PoolState → Type 0
KeepsOthers i old new = (j : ℕ) → j ≢ i → nth_frame new.frames j ≡ nth_frame old.frames j

-- the devices are unchanged, and so are the bytes and the dirty flag of each frame
pub record KeepsBytes (old new : PoolState) : Type 0 where
  pub devices : new.devices ≡ old.devices
  pub bytes : (i : ℕ) → (nth_frame new.frames i).bytes ≡ (nth_frame old.frames i).bytes
  pub dirty : (i : ℕ) → (nth_frame new.frames i).dirty ≡ (nth_frame old.frames i).dirty
