-- Pinning and loading: the frame for a page, the effect of a successful call, why a call is
-- refused, and the steps of both.
use Rattle.std.specs.Prelude.{ℕ, ◌≡◌, ◌↔◌, ◌≢◌, ◌<◌, ◌≤◌, false, List, [], length, Option, Some}
use Rattle.std.specs.Prelude.{None, ◌⊎◌, ◌+◌, ◌-◌, ◌^◌, true, set}
use Rattle.warm_stamps.specs.declared.PageId.{PageId}
use Rattle.warm_history.specs.Histories.{HistoryView, references_of}
use Rattle.warm_frame_table.specs.Frames.{nth_frame}
use Rattle.warm_rank.specs.Ranking.{IsVictim}
use Rattle.warm_pool.specs.declared.slot.Slot.{Slot}
use Rattle.warm_pool.specs.declared.slot.Placed.{Placed}
use Rattle.warm_pool.specs.declared.fault.PoolFault.{PoolFault}
use Rattle.warm_pool.specs.declared.fault.PoolFault.TheVariants.{NoDevice, NoPage, AllFixed}
use Rattle.warm_pool.specs.declared.fault.PoolFault.TheVariants.{ReadFault, WriteBack, FixesFull}
use Rattle.warm_pool.specs.State.{PoolState, RankedBy, nth_device}
use Rattle.warm_pool.specs.View.{PoolView, device_at, frame_at, view_of, HasPage, IsResident}
use Rattle.warm_pool.specs.View.{IsAbsent, unfixed_pages}
use Rattle.warm_pool.specs.Unchanged.{FailsAt, KeepsContents, KeepsOthers, KeepsBytes}
use Rattle.warm_devices.specs.Device.{DeviceState}
use Rattle.warm_pool.specs.Calls.{FlushesNone}
use Rattle.warm_pool.specs.DeviceCalls.{failed_at, read_at}
use Rattle.warm_pool.specs.WritingBack.{WaitsFor}

-- The frame for a page

-- the first frame without a page
pub record IsLeastFree (v : PoolView) (i : ℕ) : Type 0 where
  pub there : i < length v.frames
  pub free : (frame_at v i).page ≡ None
  pub least : (j : ℕ) → j < i → (frame_at v j).page ≢ None

-- each frame has a page
abbrev pub HasNoFreeFrame : PoolView → Type 0
HasNoFreeFrame v = (i : ℕ) → i < length v.frames → (frame_at v i).page ≢ None

-- every frame has a page, and that of this one is the victim, over what the history holds, among
-- the unpinned pages
pub record IsVictimFrame (h : HistoryView) (v : PoolView) (i : ℕ) : Type 0 where
  pub there : i < length v.frames
  pub full : HasNoFreeFrame v
  pub page : PageId
  pub holds : (frame_at v i).page ≡ Some page
  pub unfixed : (frame_at v i).fixes ≡ 0
  pub victim : IsVictim (references_of h) (unfixed_pages v) (Some page)

-- the frame into which a page is loaded: the first free frame, else that of the victim; none if all
-- pages are pinned
abbrev pub IsFrameToLoad : HistoryView → PoolView → Option ℕ → Type 0
IsFrameToLoad h v None = HasNoFreeFrame v × (unfixed_pages v ≡ [])
IsFrameToLoad h v (Some i) = IsLeastFree v i ⊎ IsVictimFrame h v i

-- the next victim, according to every history that ranks the pool
abbrev pub IsNextVictim : PoolState → Option PageId → Type 0
IsNextVictim s page = (h : HistoryView) → RankedBy s h
    → IsVictim (references_of h) (unfixed_pages (view_of s)) page

-- The effect of a successful call

-- the page is in the slot's frame, which can take one more pin
pub record CanPinAgain (s : PoolState) (p : PageId) (slot : Slot) : Type 0 where
  pub there : slot.index < length s.frames
  pub holds : (nth_frame s.frames slot.index).page ≡ Some p
  pub below : (nth_frame s.frames slot.index).fixes < 2 ^ 32 - 1
  pub current : slot.generation ≡ (nth_frame s.frames slot.index).generation

-- the page is in the slot's frame, and has one more pin
pub record AddsFix (old : PoolView) (p : PageId) (slot : Slot) (new : PoolView) : Type 0 where
  pub there : slot.index < length old.frames
  pub resident : (frame_at old slot.index).page ≡ Some p
  pub below : (frame_at old slot.index).fixes < 2 ^ 32 - 1
  pub current : slot.generation ≡ (frame_at old slot.index).generation
  pub becomes : new ≡ record old {
    frames = set old.frames slot.index
        (record (frame_at old slot.index) { fixes = (frame_at old slot.index).fixes + 1 });
  }

-- the page is in the slot's frame, and nothing has changed
pub record StaysIn (old : PoolView) (p : PageId) (slot : Slot) (new : PoolView) : Type 0 where
  pub there : slot.index < length old.frames
  pub resident : (frame_at old slot.index).page ≡ Some p
  pub current : slot.generation ≡ (frame_at old slot.index).generation
  pub same : new ≡ old

-- the page was in no frame, and was loaded into the slot's frame with this pin count
pub record PutsIn (h : HistoryView) (old : PoolView) (p : PageId) (fixes : ℕ) (slot : Slot)
    (new : PoolView) : Type 0 where
  pub absent : IsAbsent old p
  pub to_load : IsFrameToLoad h old (Some slot.index)
  pub below : (frame_at old slot.index).generation < 2 ^ 64 - 1
  pub current : slot.generation ≡ (frame_at old slot.index).generation + 1
  pub becomes : new ≡ record old {
    frames = set old.frames slot.index
        (record { page = Some p; generation = slot.generation; fixes = fixes });
    contents = new.contents;
  }
  pub contents : KeepsContents old new

-- the page is in the slot: it was there and has one more pin, or it was loaded with one
abbrev pub Pinned : HistoryView → PoolView → PageId → Slot → PoolView → Type 0
Pinned h old p slot new = HasPage old p × (AddsFix old p slot new ⊎ PutsIn h old p 1 slot new)

-- the page is in the slot: it was there, or it was loaded without a pin
abbrev pub Loaded : HistoryView → PoolView → PageId → Slot → PoolView → Type 0
Loaded h old p slot new = HasPage old p × (StaysIn old p slot new ⊎ PutsIn h old p 0 slot new)

-- The page that was evicted is the one that was resident and is in no frame now; none if each page
-- that was resident still is. No page is evicted for a resident one, and for another one only the
-- page in the slot's frame is.
pub record IsPlaced (old : PoolView) (p : PageId) (placed : Placed) (new : PoolView) : Type 0 where
  pub left : (q : PageId) → (placed.evicted ≡ Some q) ↔ (IsResident old q × IsAbsent new q)
  pub resident : IsResident old p → placed.evicted ≡ None
  pub absent : IsAbsent old p → placed.evicted ≡ (frame_at old placed.slot.index).page

-- the pool after the slot's page lost one pin
abbrev pub unpinned : PoolView → Slot → PoolView
unpinned old slot =
    record old {
      frames = set old.frames slot.index
          (record (frame_at old slot.index) { fixes = (frame_at old slot.index).fixes - 1 });
    }

-- A page that was resident leaves all bytes unchanged, and no device is called. A page that is
-- loaded changes only the slot's frame, which is then clean. It is read once, and no other call of
-- a device is made unless that frame was dirty: then its page was written back, and its device is
-- unflushed. No device is flushed.
pub record TakesFrame (old : PoolState) (p : PageId) (slot : Slot) (new : PoolState) : Type 0 where
  pub others : KeepsOthers slot.index old new
  pub resident : IsResident (view_of old) p → KeepsBytes old new
  pub clean : IsAbsent (view_of old) p → (nth_frame new.frames slot.index).dirty ≡ false
  pub devices : IsAbsent (view_of old) p → (nth_frame old.frames slot.index).dirty ≡ false
      → new.devices ≡ read_at p.dev old.devices
  pub waits : IsAbsent (view_of old) p → WaitsFor old slot.index new.devices
  pub unflushed : FlushesNone old.devices new.devices

-- Why a call is refused

-- there is a frame into which a page can be loaded, whose generation can increase by one
pub record CanComeIn (h : HistoryView) (old : PoolView) (i : ℕ) : Type 0 where
  pub to_load : IsFrameToLoad h old (Some i)
  pub below : (frame_at old i).generation < 2 ^ 64 - 1

-- a page that is in no frame isn't loaded: all pages are pinned, the frame's generation is the
-- greatest, the read failed, or the write-back of the victim failed
abbrev pub PutRefused : HistoryView → PoolView → PageId → PoolFault → PoolView → Type 0
PutRefused h old p AllFixed new = IsFrameToLoad h old None × (new ≡ old)
PutRefused h old p FixesFull new =
    ((i : ℕ) × IsFrameToLoad h old (Some i) × ((frame_at old i).generation ≡ 2 ^ 64 - 1))
    × (new ≡ old)
PutRefused h old p ReadFault new = ((i : ℕ) × CanComeIn h old i) × FailsAt old p.dev new
PutRefused h old p WriteBack new = (i : ℕ) × (q : PageId) × CanComeIn h old i
    × ((frame_at old i).page ≡ Some q) × FailsAt old q.dev new
PutRefused h old p why new = ⊥

-- the page is in a frame with the greatest pin count
pub record IsFixesFull (old : PoolView) (p : PageId) : Type 0 where
  pub frame : ℕ
  pub there : frame < length old.frames
  pub resident : (frame_at old frame).page ≡ Some p
  pub full : (frame_at old frame).fixes ≡ 2 ^ 32 - 1

-- why a page is not loaded, and what has then changed
abbrev pub LoadRefused : HistoryView → PoolView → PageId → PoolFault → PoolView → Type 0
LoadRefused h old p NoDevice new = (length old.devices ≤ p.dev) × (new ≡ old)
LoadRefused h old p NoPage new = (p.dev < length old.devices) × ((device_at old p.dev).pages ≤ p.no)
    × (new ≡ old)
LoadRefused h old p why new = HasPage old p × IsAbsent old p × PutRefused h old p why new

-- why a page is not pinned, and what has then changed
abbrev pub PinRefused : HistoryView → PoolView → PageId → PoolFault → PoolView → Type 0
PinRefused h old p FixesFull new = (HasPage old p × IsFixesFull old p × (new ≡ old))
    ⊎ LoadRefused h old p FixesFull new
PinRefused h old p why new = LoadRefused h old p why new

-- The page of the frame into which a page would be loaded is dirty. A write of it was attempted:
-- its device is unflushed, and the other devices are as they were before the write. No device is
-- flushed.
pub record IsUnwritten (h : HistoryView) (old : PoolState) (before : List DeviceState)
    (new : PoolState) : Type 0 where
  pub frame : ℕ
  pub page : PageId
  pub to_load : IsFrameToLoad h (view_of old) (Some frame)
  pub holds : (nth_frame old.frames frame).page ≡ Some page
  pub dirty : (nth_frame old.frames frame).dirty ≡ true
  pub waits : (nth_device new.devices page.dev).waiting ≡ true
  pub others : (k : ℕ) → k ≢ page.dev → nth_device new.devices k ≡ nth_device before k
  pub unflushed : FlushesNone old.devices new.devices

-- The devices after a refused pin or load. A page is read, once, before the victim is written:
-- if the read fails, a failure is counted, and nothing else has changed.
abbrev pub LeavesDevices : HistoryView → PoolState → PageId → PoolFault → PoolState → Type 0
LeavesDevices h old p ReadFault new = new.devices ≡ failed_at p.dev old.devices
LeavesDevices h old p WriteBack new = IsUnwritten h old (read_at p.dev old.devices) new
LeavesDevices h old p why new = new.devices ≡ old.devices
