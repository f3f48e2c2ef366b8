-- Laws of every pool.
use Rattle.std.specs.Prelude.{◌≡◌, ◌↔◌, ◌⊎◌, ◌≤◌, ℕ, IsTrue, List, length, Option, Some, None}
use Rattle.std.specs.Prelude.{Contains}
use Rattle.warm_stamps.specs.declared.PageId.{PageId}
use Rattle.warm_history.specs.ReferenceSets.{ReferenceSet}
use Rattle.warm_history.specs.Histories.{HistoryView}
use Rattle.warm_rank.specs.Ranking.{IsVictim}
use Rattle.warm_devices.specs.Device.{DeviceState}
use Rattle.warm_pool.specs.declared.slot.Slot.{Slot}
use Rattle.warm_pool.specs.State.{PoolState, IsPool, RankedBy}
use Rattle.warm_pool.specs.View.{PoolView, device_at, contents_at, view_of, frame_at, HasPage}
use Rattle.warm_pool.specs.View.{Holds, IsResident, unfixed_pages}
use Rattle.warm_pool.specs.Unchanged.{KeepsRanks}
use Rattle.warm_pool.specs.PageBytes.{Written, MakesDirty}
use Rattle.warm_pool.specs.Lending.{relent_pool}
use Rattle.warm_pool.specs.Pinning.{AddsFix, IsFrameToLoad, Loaded, Pinned, unpinned}
use Rattle.warm_pool.specs.Zeroing.{PinnedZeroed}
use Rattle.warm_pool.specs.Forgetting.{Forgets}
use Rattle.warm_pool.specs.Retiring.{Retired}

-- a pool without a page is ranked by every history
abbrev pub EmptyPoolIsRanked : Type 0
EmptyPoolIsRanked = (s : PoolState) (h : HistoryView) → IsPool s
    → ((i : ℕ) → (frame_at (view_of s) i).page ≡ None) → RankedBy s h

-- what was left in the bytes of a page that were lent was written to the page, and nothing else of
-- the pool has changed
pub record IsWrittenWhole (old : PoolState) (slot : Slot) (w : List ℕ)
    (new : PoolState) : Type 0 where
  pub written : Written (view_of old) slot 0 w (view_of new)
  pub dirty : MakesDirty old slot new
  pub ranked : KeepsRanks old new

-- a page that was lent is written whole with the bytes that were left there
abbrev pub LentPageIsWritten : Type 0
LentPageIsWritten = (s : PoolState) (slot : Slot) (w : List ℕ) → IsPool s
    → Holds (view_of s) slot → length w ≡ s.page_size
    → IsWrittenWhole s slot w (relent_pool s slot.index w)

-- Pins were added: each frame has the page that it had, and at least as many pins.
pub record AddsPins (old new : PoolView) : Type 0 where
  pub count : length new.frames ≡ length old.frames
  pub pages : (i : ℕ) → (frame_at new i).page ≡ (frame_at old i).page
  pub fixes : (i : ℕ) → (frame_at old i).fixes ≤ (frame_at new i).fixes

-- a pin of a resident page adds pins, and removes none
abbrev pub PinAddsPins : Type 0
PinAddsPins = (old new : PoolView) (p : PageId) (slot : Slot) → AddsFix old p slot new
    → AddsPins old new

-- the victim is still the victim, and no other page is, if pins were added but none to it
abbrev pub MorePinsKeepVictim : Type 0
MorePinsKeepVictim = (S : ReferenceSet) (old new : PoolView) (p : PageId) → AddsPins old new
    → Contains (unfixed_pages new) p → IsVictim S (unfixed_pages old) (Some p)
    → (q : Option PageId) → IsVictim S (unfixed_pages new) q ↔ (q ≡ Some p)

-- the frame into which a page is loaded is still the same, if pins were added but none to its page
abbrev pub MorePinsKeepFrame : Type 0
MorePinsKeepFrame = (h : HistoryView) (old new : PoolView) (i : ℕ) → AddsPins old new
    → (frame_at new i).fixes ≡ 0 → IsFrameToLoad h old (Some i) → IsFrameToLoad h new (Some i)

-- Two calls gave the same slot. Each frame has the same page, generation and pin count after both,
-- and each page of an honest device the same bytes.
pub record GoAlike (old : PoolView) (slot : Slot) (v : PoolView) (other : Slot)
    (w : PoolView) : Type 0 where
  pub same : other ≡ slot
  pub frames : w.frames ≡ v.frames
  pub contents : (q : PageId) → HasPage old q → IsTrue (device_at old q.dev).honest
      → contents_at w q ≡ contents_at v q

-- two pins of a page go alike, even if one reads the page and the other is given its bytes
abbrev pub PinsGoAlike : Type 0
PinsGoAlike = (s : PoolState) (h : HistoryView) (p : PageId) (slot other : Slot) (v w : PoolView)
    → IsPool s → Pinned h (view_of s) p slot v → Pinned h (view_of s) p other w
    → GoAlike (view_of s) slot v other w

-- A page that is resident before and after is in the frame in which it was, and no page was loaded
-- into that frame in between.
abbrev pub KeepsPlaces : PoolView → PoolView → Type 0
KeepsPlaces old new = (p : PageId) (i : ℕ) → (frame_at old i).page ≡ Some p → IsResident new p
    → ((frame_at new i).page ≡ Some p)
    × ((frame_at new i).generation ≡ (frame_at old i).generation)

-- a call that pins or loads a page keeps places
abbrev pub PinsKeepPlaces : Type 0
PinsKeepPlaces = (s : PoolState) (h : HistoryView) (p : PageId) (slot : Slot) (new : PoolView)
    → IsPool s → Pinned h (view_of s) p slot new
    ⊎ (Loaded h (view_of s) p slot new ⊎ PinnedZeroed h (view_of s) p slot new)
    → KeepsPlaces (view_of s) new

-- removing a pin keeps places
abbrev pub UnpinsKeepPlaces : Type 0
UnpinsKeepPlaces = (s : PoolState) (slot : Slot) → IsPool s → Holds (view_of s) slot
    → KeepsPlaces (view_of s) (unpinned (view_of s) slot)

-- a call after which a caller sees the same frames keeps places: a write, a write-back, new ranks,
-- a refusal
abbrev pub SameFramesKeepPlaces : Type 0
SameFramesKeepPlaces = (s : PoolState) (new : PoolView) → IsPool s
    → new.frames ≡ (view_of s).frames → KeepsPlaces (view_of s) new

-- a call by which pages leave keeps places: a device is retired, or pages are forgotten
abbrev pub LeavingKeepsPlaces : Type 0
LeavingKeepsPlaces = (s new : PoolState) (dev from : ℕ) (device : DeviceState) → IsPool s
    → Retired (view_of s) dev device (view_of new) ⊎ Forgets s dev from new
    → KeepsPlaces (view_of s) (view_of new)
