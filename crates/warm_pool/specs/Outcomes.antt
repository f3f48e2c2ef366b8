-- What each call of a pool does, one record an outcome: what a call that succeeded did, and what a
-- refusal left. A refusal has a field `cause`: why, and what a caller then sees. That a history
-- still ranks the pool holds in both cases: it is a clause of its own, but of calls that are never
-- refused.
use Rattle.std.specs.Prelude.{ℕ, ◌≡◌, ◌≢◌, List, Bool, length}
use Rattle.warm_stamps.specs.declared.PageId.{PageId}
use Rattle.warm_history.specs.Histories.{HistoryView}
use Rattle.warm_devices.specs.Device.{DeviceState}
use Rattle.warm_pool.specs.declared.slot.Slot.{Slot}
use Rattle.warm_pool.specs.declared.slot.Placed.{Placed}
use Rattle.warm_pool.specs.declared.fault.PoolFault.{PoolFault}
use Rattle.warm_pool.specs.declared.fault.PoolFault.TheVariants.{Fault}
use Rattle.warm_pool.specs.State.{PoolState, IsRankedByAll, IsSettled, RankedBy}
use Rattle.warm_pool.specs.View.{PoolView, Holds, IsUnfixed, view_of}
use Rattle.warm_pool.specs.Calls.{FlushesNone, FlushesOnce, ReadsNone}
use Rattle.warm_pool.specs.Unchanged.{KeepsBytes, KeepsFrames, KeepsRanks, SameButFailures}
use Rattle.warm_pool.specs.Pinning.{IsPlaced, LeavesDevices, Loaded, LoadRefused, Pinned}
use Rattle.warm_pool.specs.Pinning.{PinRefused, TakesFrame, unpinned}
use Rattle.warm_pool.specs.Zeroing.{LeavesUnread, PinnedZeroed, TakesZeroed, ZeroedRefused}
use Rattle.warm_pool.specs.Filling.{TakesFilled}
use Rattle.warm_pool.specs.PageBytes.{IsRead, MakesDirty, Written}
use Rattle.warm_pool.specs.Refreshing.{KeepsOtherRanks, RefreshesRanks, UpdatesNamedRanks}
use Rattle.warm_pool.specs.WritingBack.{WriteBackFails}
use Rattle.warm_pool.specs.WritingSome.{FlushRefused, IsSettledOn, KeepsOtherDevices, PageFails}
use Rattle.warm_pool.specs.WritingSome.{SomeFails, StopsAtDevice, WritesBackPage, WritesBackSome}
use Rattle.warm_pool.specs.Retiring.{Emptied, EmptyRefused, KeepsElsewhere, Retired, RetireRefused}
use Rattle.warm_pool.specs.HandingBack.{HandsBack, HandsBackOne}

-- Pins and loads

-- the page is in the slot, and pinned there
pub record PinsPage (h : HistoryView) (p : PageId) (old : PoolState) (slot : Slot)
    (new : PoolState) : Type 0 where
  pub pinned : Pinned h (view_of old) p slot (view_of new)
  pub holds : Holds (view_of new) slot
  pub frame : TakesFrame old p slot new

-- the page is in the slot, and pinned there; and which page was evicted for it
pub record PinsPlaced (h : HistoryView) (p : PageId) (old : PoolState) (placed : Placed)
    (new : PoolState) : Type 0 where
  pub pin : PinsPage h p old placed.slot new
  pub evicted : IsPlaced (view_of old) p placed (view_of new)

-- a resident page is pinned once more, as every history has it
pub record PinsAgain (p : PageId) (old : PoolState) (placed : Placed)
    (new : PoolState) : Type 0 where
  pub ranked : KeepsRanks old new
  pub pinned : (h : HistoryView) → Pinned h (view_of old) p placed.slot (view_of new)
  pub evicted : IsPlaced (view_of old) p placed (view_of new)
  pub holds : Holds (view_of new) placed.slot
  pub frame : TakesFrame old p placed.slot new

-- all frames are unchanged, and all devices but one
pub record PinFails (h : HistoryView) (p : PageId) (old : PoolState) (why : PoolFault)
    (new : PoolState) : Type 0 where
  pub cause : PinRefused h (view_of old) p why (view_of new)
  pub stays : SameButFailures (view_of old) (view_of new)
  pub frames : KeepsFrames old new
  pub devices : LeavesDevices h old p why new
  pub unflushed : FlushesNone old.devices new.devices

-- the page is in the slot
pub record LoadsPage (h : HistoryView) (p : PageId) (old : PoolState) (slot : Slot)
    (new : PoolState) : Type 0 where
  pub loaded : Loaded h (view_of old) p slot (view_of new)
  pub frame : TakesFrame old p slot new

-- the page is in the slot; and which page was evicted for it
pub record LoadsPlaced (h : HistoryView) (p : PageId) (old : PoolState) (placed : Placed)
    (new : PoolState) : Type 0 where
  pub load : LoadsPage h p old placed.slot new
  pub evicted : IsPlaced (view_of old) p placed (view_of new)

-- all frames are unchanged, and all devices but one
pub record LoadFails (h : HistoryView) (p : PageId) (old : PoolState) (why : PoolFault)
    (new : PoolState) : Type 0 where
  pub cause : LoadRefused h (view_of old) p why (view_of new)
  pub stays : SameButFailures (view_of old) (view_of new)
  pub frames : KeepsFrames old new
  pub devices : LeavesDevices h old p why new
  pub unflushed : FlushesNone old.devices new.devices

-- the page is in the slot, pinned there, and all its bytes are zero
pub record ZeroesPage (h : HistoryView) (p : PageId) (old : PoolState) (slot : Slot)
    (new : PoolState) : Type 0 where
  pub pinned : PinnedZeroed h (view_of old) p slot (view_of new)
  pub holds : Holds (view_of new) slot
  pub frame : TakesZeroed old p slot new

-- the page is in the slot, pinned there, with these bytes unless it was resident
pub record FillsPage (h : HistoryView) (p : PageId) (bytes : List ℕ) (old : PoolState)
    (placed : Placed) (new : PoolState) : Type 0 where
  pub pinned : Pinned h (view_of old) p placed.slot (view_of new)
  pub evicted : IsPlaced (view_of old) p placed (view_of new)
  pub holds : Holds (view_of new) placed.slot
  pub frame : TakesFilled old p bytes placed.slot new

-- a pin that reads no page: all frames are unchanged, and all devices but the victim's
pub record UnreadPinFails (h : HistoryView) (p : PageId) (old : PoolState) (why : PoolFault)
    (new : PoolState) : Type 0 where
  pub cause : ZeroedRefused h (view_of old) p why (view_of new)
  pub stays : SameButFailures (view_of old) (view_of new)
  pub frames : KeepsFrames old new
  pub devices : LeavesUnread h old why new
  pub unread : ReadsNone old.devices new.devices
  pub unflushed : FlushesNone old.devices new.devices

-- the slot's page has one pin less
pub record UnpinsPage (slot : Slot) (old new : PoolState) : Type 0 where
  pub ranked : KeepsRanks old new
  pub unpinned : view_of new ≡ unpinned (view_of old) slot
  pub kept : KeepsBytes old new

-- Bytes

-- all bytes of a buffer were read from the slot's page
pub record CopiesBytes (v : PoolView) (slot : Slot) (at : ℕ) (old new : List ℕ) : Type 0 where
  pub read : IsRead v slot at new
  pub len : length new ≡ length old

-- the bytes were written to the slot's page, which is dirty
pub record WritesInto (slot : Slot) (at : ℕ) (bytes : List ℕ) (old new : PoolState) : Type 0 where
  pub written : Written (view_of old) slot at bytes (view_of new)
  pub dirty : MakesDirty old slot new

-- Ranks

-- these pages have the ranks that the history gives them, and the others those that they had
pub record UpdatesRanks (pages : List PageId) (h : HistoryView) (old new : PoolState) : Type 0 where
  pub ranked : RefreshesRanks pages h old new
  pub renewed : UpdatesNamedRanks pages h new
  pub others : KeepsOtherRanks pages old new
  pub same : view_of new ≡ view_of old
  pub kept : KeepsBytes old new

-- all pages have the ranks that the history gives them
pub record UpdatesAllRanks (h : HistoryView) (old new : PoolState) : Type 0 where
  pub ranked : RankedBy new h
  pub same : view_of new ≡ view_of old
  pub kept : KeepsBytes old new

-- Writing back

-- no page is dirty, and no device is unflushed
pub record WritesAllBack (old new : PoolState) : Type 0 where
  pub same : view_of new ≡ view_of old
  pub settled : IsSettled new
  pub once : FlushesOnce old.devices new.devices

-- the write of a page or a flush failed; the frames written before it are clean
pub record WriteAllFails (old : PoolState) (why : PoolFault) (new : PoolState) : Type 0 where
  pub cause : (why ≡ Fault) × WriteBackFails old new
  pub once : FlushesOnce old.devices new.devices

-- at most `limit` pages were written, and `left` pages are still dirty
pub record WritesSomeBack (limit : ℕ) (old : PoolState) (left : ℕ)
    (new : PoolState) : Type 0 where
  pub same : view_of new ≡ view_of old
  pub written : WritesBackSome limit old left new
  pub unflushed : FlushesNone old.devices new.devices

-- a dirty page was not written; those before it are clean
pub record WriteSomeFails (limit : ℕ) (old : PoolState) (why : PoolFault)
    (new : PoolState) : Type 0 where
  pub cause : (why ≡ Fault) × SomeFails limit old new
  pub unflushed : FlushesNone old.devices new.devices

-- whether the page was dirty; it is not now
pub record WritesPageBack (p : PageId) (old : PoolState) (was_dirty : Bool)
    (new : PoolState) : Type 0 where
  pub same : view_of new ≡ view_of old
  pub written : WritesBackPage old p was_dirty new
  pub unflushed : FlushesNone old.devices new.devices

-- the page was not written, and is still dirty
pub record WritePageFails (p : PageId) (old : PoolState) (why : PoolFault)
    (new : PoolState) : Type 0 where
  pub cause : (why ≡ Fault) × PageFails old p new
  pub unflushed : FlushesNone old.devices new.devices

-- no page of the device is dirty, and it is not unflushed
pub record SettlesDevice (dev : ℕ) (old new : PoolState) : Type 0 where
  pub same : view_of new ≡ view_of old
  pub settled : IsSettledOn dev new
  pub elsewhere : KeepsElsewhere dev old new
  pub others : KeepsOtherDevices dev old new
  pub once : FlushesOnce old.devices new.devices

-- the device is not there, or a page of it was not written, or it was not flushed
pub record FlushDeviceFails (dev : ℕ) (old : PoolState) (why : PoolFault)
    (new : PoolState) : Type 0 where
  pub cause : FlushRefused old dev why new
  pub elsewhere : KeepsElsewhere dev old new
  pub others : KeepsOtherDevices dev old new
  pub once : FlushesOnce old.devices new.devices

-- Leaving frames

-- no page is in a frame, and no device is unflushed
pub record EmptiesPool (old new : PoolState) : Type 0 where
  pub emptied : Emptied (view_of old) (view_of new)
  pub settled : IsSettled new
  pub unranked : IsRankedByAll new
  pub once : FlushesOnce old.devices new.devices

-- a pool that is not emptied, and does not give its devices back
pub record EmptyFails (old : PoolState) (why : PoolFault) (new : PoolState) : Type 0 where
  pub cause : EmptyRefused old why new
  pub once : FlushesOnce old.devices new.devices

-- the devices of a pool of which no page is pinned
pub record GivesDevices (old : PoolState) (devices : List DeviceState) : Type 0 where
  pub unfixed : IsUnfixed (view_of old)
  pub handed_back : HandsBack old devices

-- another device has replaced device dev
pub record RetiresDevice (dev : ℕ) (device : DeviceState) (old new : PoolState) : Type 0 where
  pub retired : Retired (view_of old) dev device (view_of new)
  pub elsewhere : KeepsElsewhere dev old new
  pub others : KeepsOtherDevices dev old new

-- another device has replaced device dev, and the caller got the old one
pub record ReplacesDevice (dev : ℕ) (device : DeviceState) (old : PoolState)
    (was : DeviceState) (new : PoolState) : Type 0 where
  pub retires : RetiresDevice dev device old new
  pub handed_back : HandsBackOne old dev was

-- the device was not replaced: nothing has changed, unless a call of it failed
pub record RetireFails (dev : ℕ) (device : DeviceState) (old : PoolState) (why : PoolFault)
    (new : PoolState) : Type 0 where
  pub cause : RetireRefused (view_of old) dev device why (view_of new)
  pub unchanged : why ≢ Fault → new ≡ old
  pub stopped : why ≡ Fault → StopsAtDevice dev old new
  pub elsewhere : KeepsElsewhere dev old new
  pub others : KeepsOtherDevices dev old new
  pub once : FlushesOnce old.devices new.devices
