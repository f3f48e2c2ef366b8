-- Pinning a page whose content becomes zeros, without reading it.
use Rattle.std.specs.Prelude.{◌≡◌, ◌≢◌, ◌⊎◌, ◌<◌, ◌+◌, ◌-◌, ◌^◌, true, false, IsTrue, [], length}
use Rattle.std.specs.Prelude.{replicate, set, Some}
use Rattle.warm_stamps.specs.declared.PageId.{PageId}
use Rattle.warm_history.specs.Histories.{HistoryView}
use Rattle.warm_frame_table.specs.Frames.{nth_frame}
use Rattle.warm_pool.specs.declared.slot.Slot.{Slot}
use Rattle.warm_pool.specs.declared.fault.PoolFault.{PoolFault}
use Rattle.warm_pool.specs.declared.fault.PoolFault.TheVariants.{ReadFault, WriteBack}
use Rattle.warm_pool.specs.State.{PoolState}
use Rattle.warm_pool.specs.View.{PoolView, device_at, frame_at, contents_at, view_of, HasPage}
use Rattle.warm_pool.specs.View.{IsResident, IsAbsent}
use Rattle.warm_pool.specs.Calls.{FlushesNone}
use Rattle.warm_pool.specs.Unchanged.{KeepsOthers}
use Rattle.warm_pool.specs.WritingBack.{WaitsFor}
use Rattle.warm_pool.specs.PageBytes.{Written}
use Rattle.warm_pool.specs.Pinning.{AddsFix, IsFrameToLoad, PinRefused, IsUnwritten}

-- The pages of honest devices, and those resident before and after, have the same bytes as before,
-- all but one page. A page of another device that isn't resident has no bytes here, and one that is
-- resident has the size of a page.
pub record KeepsContentsBut (p : PageId) (old new : PoolView) : Type 0 where
  pub honest : (q : PageId) → q ≢ p → HasPage old q → IsTrue (device_at old q.dev).honest
      → contents_at new q ≡ contents_at old q
  pub resident : (q : PageId) → q ≢ p → IsResident old q → IsResident new q
      → contents_at new q ≡ contents_at old q
  pub absent : (q : PageId) → (device_at new q.dev).honest ≡ false → IsAbsent new q
      → contents_at new q ≡ []
  pub sized : (q : PageId) → IsResident new q → length (contents_at new q) ≡ new.page_size

-- the page was in no frame; it is in the slot's frame now, with one pin, and all its bytes are zero
pub record PutsZeros (h : HistoryView) (old : PoolView) (p : PageId) (slot : Slot)
    (new : PoolView) : Type 0 where
  pub absent : IsAbsent old p
  pub to_load : IsFrameToLoad h old (Some slot.index)
  pub below : (frame_at old slot.index).generation < 2 ^ 64 - 1
  pub current : slot.generation ≡ (frame_at old slot.index).generation + 1
  pub becomes : new ≡ record old {
    frames = set old.frames slot.index
        (record { page = Some p; generation = slot.generation; fixes = 1 });
    contents = new.contents;
  }
  pub zeros : contents_at new p ≡ replicate old.page_size 0
  pub others : KeepsContentsBut p old new

-- the page was in the slot's frame, and got one more pin; then zeros were written to all of it
pub record FixesZeroed (old : PoolView) (p : PageId) (slot : Slot) (new : PoolView) : Type 0 where
  pub between : PoolView
  pub adds : AddsFix old p slot between
  pub written : Written between slot 0 (replicate old.page_size 0) new

-- a device has the page; it is in the slot's frame, pinned, and all its bytes are zero
abbrev pub PinnedZeroed : HistoryView → PoolView → PageId → Slot → PoolView → Type 0
PinnedZeroed h old p slot new =
    HasPage old p × (FixesZeroed old p slot new ⊎ PutsZeros h old p slot new)

-- The slot's frame is dirty, and no other has changed. The devices are unchanged for a page that
-- was resident, and for another one unless the slot's frame was dirty: then its page was written
-- back, and its device is unflushed. No device is flushed.
pub record TakesZeroed (old : PoolState) (p : PageId) (slot : Slot) (new : PoolState) : Type 0 where
  pub dirty : (nth_frame new.frames slot.index).dirty ≡ true
  pub others : KeepsOthers slot.index old new
  pub resident : IsResident (view_of old) p → new.devices ≡ old.devices
  pub devices : (nth_frame old.frames slot.index).dirty ≡ false → new.devices ≡ old.devices
  pub waits : IsAbsent (view_of old) p → WaitsFor old slot.index new.devices
  pub unflushed : FlushesNone old.devices new.devices

-- the refusals of a pin, but that of a failed read: no page is read
abbrev pub ZeroedRefused : HistoryView → PoolView → PageId → PoolFault → PoolView → Type 0
ZeroedRefused h old p why new = PinRefused h old p why new × (why ≢ ReadFault)

-- the devices after a refused call: only the write of the victim called one
abbrev pub LeavesUnread : HistoryView → PoolState → PoolFault → PoolState → Type 0
LeavesUnread h old WriteBack new = IsUnwritten h old old.devices new
LeavesUnread h old why new = new.devices ≡ old.devices
