-- Pinning a page whose bytes are given: the caller has read them from its device.
use Rattle.std.specs.Prelude.{ℕ, ◌≡◌, false, IsTrue, List}
use Rattle.warm_stamps.specs.declared.PageId.{PageId}
use Rattle.warm_frame_table.specs.Frames.{nth_frame}
use Rattle.warm_pool.specs.declared.slot.Slot.{Slot}
use Rattle.warm_pool.specs.State.{PoolState}
use Rattle.warm_pool.specs.View.{PoolView, device_at, contents_at, view_of, HasPage, IsResident}
use Rattle.warm_pool.specs.View.{IsAbsent}
use Rattle.warm_pool.specs.Calls.{FlushesNone, ReadsNone}
use Rattle.warm_pool.specs.Unchanged.{KeepsBytes, KeepsOthers}
use Rattle.warm_pool.specs.WritingBack.{WaitsFor}

-- These are the bytes that an honest device has of the page. Nothing is asked of the bytes of a
-- page that is resident, nor of one whose device is not honest.
abbrev pub AreFromDevice : PoolView → PageId → List ℕ → Type 0
AreFromDevice v p bytes = HasPage v p → IsAbsent v p → IsTrue (device_at v p.dev).honest
    → bytes ≡ contents_at v p

-- A page that was resident leaves all bytes unchanged, and no device is called. A page that was not
-- has these bytes now, and changes only the slot's frame, which is then clean. No call of a device
-- is made unless that frame was dirty: then its page was written back, and its device is unflushed.
-- No device is read, and none is flushed.
pub record TakesFilled (old : PoolState) (p : PageId) (bytes : List ℕ) (slot : Slot)
    (new : PoolState) : Type 0 where
  pub others : KeepsOthers slot.index old new
  pub resident : IsResident (view_of old) p → KeepsBytes old new
  pub filled : IsAbsent (view_of old) p → contents_at (view_of new) p ≡ bytes
  pub clean : IsAbsent (view_of old) p → (nth_frame new.frames slot.index).dirty ≡ false
  pub devices : IsAbsent (view_of old) p → (nth_frame old.frames slot.index).dirty ≡ false
      → new.devices ≡ old.devices
  pub waits : IsAbsent (view_of old) p → WaitsFor old slot.index new.devices
  pub unread : ReadsNone old.devices new.devices
  pub unflushed : FlushesNone old.devices new.devices
