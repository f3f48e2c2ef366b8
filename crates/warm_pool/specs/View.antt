-- What a caller sees of a pool, and how it follows from the pool's state.
use Rattle.std.specs.Prelude.{ℕ, ◌≡◌, ◌≢◌, ◌<◌, ◌==◌, ◌&&◌, Bool, false, List, [], ◌∷◌, map, length}
use Rattle.std.specs.Prelude.{Option, Some, None, slice_index_or, if◌then◌else◌}
use Rattle.std.specs.List.{range_with_len}
use Rattle.warm_stamps.specs.declared.PageId.{PageId}
use Rattle.warm_devices.specs.Device.{DeviceState, page_at}
use Rattle.warm_frame_table.specs.Frames.{FrameState}
use Rattle.warm_rank.specs.Laws.{pages_in}
use Rattle.warm_pool.specs.declared.slot.Slot.{Slot}
use Rattle.warm_pool.specs.State.{PoolState, nth_device}

-- the facts of a device that only its retirement changes
pub record DeviceView : Type 0 where
  pub pages : ℕ
  pub honest : Bool
  pub unfailing : Bool

-- a frame: its page, its generation (how many pages were loaded into it so far), and the pin count
-- of its page
pub record FrameView : Type 0 where
  pub page : Option PageId
  pub generation : ℕ
  pub fixes : ℕ

-- A pool: the size of a page; its devices; its frames; the bytes of each page of each device, by
-- device and number; and the number of failed calls of each device. Of a device that isn't honest,
-- only resident pages have bytes here.
pub record PoolView : Type 0 where
  pub page_size : ℕ
  pub devices : List DeviceView
  pub frames : List FrameView
  pub contents : List (List (List ℕ))
  pub failures : List ℕ

-- the device of this number
abbrev pub device_at : PoolView → ℕ → DeviceView
device_at v k = slice_index_or v.devices k (record { pages = 0; honest = false; unfailing = false })

-- the frame of this number
abbrev pub frame_at : PoolView → ℕ → FrameView
frame_at v i = slice_index_or v.frames i (record { page = None; generation = 0; fixes = 0 })

-- the count of failures of the device of this number
abbrev pub failures_at : PoolView → ℕ → ℕ
failures_at v k = slice_index_or v.failures k 0

-- the bytes of a page
abbrev pub contents_at : PoolView → PageId → List ℕ
contents_at v p = slice_index_or (slice_index_or v.contents p.dev []) p.no []

-- How it follows from the pool's state

-- whether this is the page of the frame
abbrev pub is_page : PageId → Option PageId → Bool
is_page p None = false
is_page p (Some q) = (q.dev == p.dev) && (q.no == p.no)

-- the bytes of the page: those in its frame, or else these
abbrev pub bytes_in : List FrameState → PageId → List ℕ → List ℕ
bytes_in [] p others = others
bytes_in (f ∷ fs) p others = if is_page p f.page then f.bytes else bytes_in fs p others

-- the bytes of a page on its device, if the device is honest
abbrev pub stored : List DeviceState → PageId → List ℕ
stored devices p =
    if (nth_device devices p.dev).honest then page_at (nth_device devices p.dev).contents p.no
    else []

-- the bytes of a page: those in its frame, or else those on its device
abbrev pub bytes_of : List FrameState → List DeviceState → PageId → List ℕ
bytes_of frames devices p = bytes_in frames p (stored devices p)

-- the bytes of each page of each device
abbrev pub contents_of : List FrameState → List DeviceState → List (List (List ℕ))
contents_of frames devices =
    map (λ k. map (λ n. bytes_of frames devices (record { dev = k; no = n }))
    (range_with_len 0 (nth_device devices k).pages))
    (range_with_len 0 (length devices))

-- what a caller sees of a frame
abbrev pub frame_view : FrameState → FrameView
frame_view f = record { page = f.page; generation = f.generation; fixes = f.fixes }

-- what a caller sees of a device
abbrev pub device_view : DeviceState → DeviceView
device_view d = record { pages = d.pages; honest = d.honest; unfailing = d.unfailing }

-- what a caller sees of a pool
abbrev pub view_of : PoolState → PoolView
view_of s = record {
  page_size = s.page_size;
  devices = map device_view s.devices;
  frames = map frame_view s.frames;
  contents = contents_of s.frames s.devices;
  failures = map (λ d. d.failures) s.devices;
}

-- Facts about pages and slots

-- a device has the page
pub record HasPage (v : PoolView) (p : PageId) : Type 0 where
  pub device : p.dev < length v.devices
  pub number : p.no < (device_at v p.dev).pages

-- the page is in a frame
pub record IsResident (v : PoolView) (p : PageId) : Type 0 where
  pub frame : ℕ
  pub there : frame < length v.frames
  pub holds : (frame_at v frame).page ≡ Some p

-- the page is in no frame
abbrev pub IsAbsent : PoolView → PageId → Type 0
IsAbsent v p = (i : ℕ) → (frame_at v i).page ≢ Some p

-- the slot's frame is pinned, and no other page was loaded into it since the slot was given
pub record Holds (v : PoolView) (slot : Slot) : Type 0 where
  pub there : slot.index < length v.frames
  pub current : slot.generation ≡ (frame_at v slot.index).generation
  pub fixed : 0 < (frame_at v slot.index).fixes

-- the page of a frame that is not pinned
abbrev pub unfixed_page : FrameView → Option PageId
unfixed_page f = if f.fixes == 0 then f.page else None

-- the resident pages that are not pinned
abbrev pub unfixed_pages : PoolView → List PageId
unfixed_pages v = pages_in (map unfixed_page v.frames)

-- a page is pinned
pub record IsFixed (v : PoolView) : Type 0 where
  pub frame : ℕ
  pub there : frame < length v.frames
  pub fixed : 0 < (frame_at v frame).fixes

-- no page is pinned
abbrev pub IsUnfixed : PoolView → Type 0
IsUnfixed v = (i : ℕ) → (frame_at v i).fixes ≡ 0
