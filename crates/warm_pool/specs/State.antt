-- The state of a pool: its frames and its devices as plain data, and the invariant of pools.
use Rattle.std.specs.Prelude.{ℕ, ◌≡◌, ◌≢◌, ◌<◌, ◌≤◌, false, IsTrue, List, [], map, length}
use Rattle.std.specs.Prelude.{replicate, Some, None, slice_index_or}
use Rattle.std.specs.Option.{option_map}
use Rattle.warm_stamps.specs.declared.PageId.{PageId}
use Rattle.warm_history.specs.Histories.{HistoryView, hist, references_of}
use Rattle.warm_rank.specs.declared.TheConstants.{MAX_FRAMES}
use Rattle.warm_frame_table.specs.Frames.{FrameState, FramesState, nth_frame, fresh_frame}
use Rattle.warm_pool.specs.declared.TheConstants.{MAX_DEVICES}
use Rattle.warm_rank.specs.Keys.{rank_key}
use Rattle.warm_devices.specs.declared.TheConstants.{MAX_PAGE_SIZE}
use Rattle.warm_devices.specs.Calls.{no_calls}
use Rattle.warm_devices.specs.Device.{DeviceState, page_at}

-- A pool: the size of a page, the length of the spare buffer into which a page is read first, its
-- frames and its devices.
pub record PoolState : Type 0 where
  pub page_size : ℕ
  pub spare : ℕ
  pub frames : List FrameState
  pub devices : List DeviceState

-- a pool over devices with these states
abbrev pub pool_over : {B : Type 0} → (B → DeviceState) → FramesState → ℕ → List B → PoolState
pool_over shown frames spare devices =
    record {
      page_size = frames.page_size;
      spare = spare;
      frames = frames.frames;
      devices = map shown devices;
    }

-- a pool without a page
abbrev pub fresh_pool : ℕ → ℕ → List DeviceState → PoolState
fresh_pool frames size devices =
    record {
      page_size = size;
      spare = size;
      frames = replicate frames (fresh_frame (replicate size 0));
      devices = devices;
    }

-- a device without a page
abbrev pub no_device : DeviceState
no_device =
    record {
      pages = 0;
      page_size = 0;
      contents = [];
      waiting = false;
      failures = 0;
      calls = no_calls;
      honest = false;
      unfailing = false;
    }

-- the device of this index, from 0
abbrev pub nth_device : List DeviceState → ℕ → DeviceState
nth_device devices k = slice_index_or devices k no_device

-- the page is in none of the frames
abbrev pub IsNowhere : List FrameState → PageId → Type 0
IsNowhere frames p = (i : ℕ) → (nth_frame frames i).page ≢ Some p

-- The invariant of pools. A page is in at most one frame, and a device has it; a clean frame has
-- the bytes of an honest device; a frame without a page is neither pinned nor dirty, and has no
-- rank.
pub record IsPool (s : PoolState) : Type 0 where
  pub some_frames : 0 < length s.frames
  pub few_frames : length s.frames ≤ MAX_FRAMES
  pub some_bytes : 0 < s.page_size
  pub few_bytes : s.page_size ≤ MAX_PAGE_SIZE
  pub few_devices : length s.devices ≤ MAX_DEVICES
  pub spare_size : s.spare ≡ s.page_size
  pub frame_size : (i : ℕ) → i < length s.frames → length (nth_frame s.frames i).bytes ≡ s.page_size
  pub device_size : (k : ℕ) → k < length s.devices
      → (nth_device s.devices k).page_size ≡ s.page_size
  pub has_device : (i : ℕ) (p : PageId) → (nth_frame s.frames i).page ≡ Some p
      → p.dev < length s.devices
  pub has_page : (i : ℕ) (p : PageId) → (nth_frame s.frames i).page ≡ Some p
      → p.no < (nth_device s.devices p.dev).pages
  pub once : (i j : ℕ) (p : PageId) → (nth_frame s.frames i).page ≡ Some p
      → (nth_frame s.frames j).page ≡ Some p → i ≡ j
  pub clean : (i : ℕ) (p : PageId) → (nth_frame s.frames i).page ≡ Some p
      → (nth_frame s.frames i).dirty ≡ false
      → IsTrue (nth_device s.devices p.dev).honest
      → (nth_frame s.frames i).bytes ≡ page_at (nth_device s.devices p.dev).contents p.no
  pub bare : (i : ℕ) → (nth_frame s.frames i).page ≡ None
      → ((nth_frame s.frames i).key ≡ None) × ((nth_frame s.frames i).fixes ≡ 0)
      × ((nth_frame s.frames i).dirty ≡ false)

-- the rank of each resident page is the one that the history gives it
abbrev pub RankedBy : PoolState → HistoryView → Type 0
RankedBy s h = (i : ℕ)
    → (nth_frame s.frames i).key
    ≡ option_map (λ p. rank_key p (hist (references_of h) p)) (nth_frame s.frames i).page

-- every history ranks the pool
abbrev pub IsRankedByAll : PoolState → Type 0
IsRankedByAll s = (h : HistoryView) → RankedBy s h

-- no frame is dirty, and no device is unflushed; so an honest device has each page as it is in its
-- frame
pub record IsSettled (s : PoolState) : Type 0 where
  pub clean : (i : ℕ) → (nth_frame s.frames i).dirty ≡ false
  pub flushed : (k : ℕ) → (nth_device s.devices k).waiting ≡ false
