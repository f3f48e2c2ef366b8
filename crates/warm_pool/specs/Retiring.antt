-- Emptying a pool, closing it, and retiring a device: why a call is refused, its effect, and the
-- steps of its body.
use Rattle.std.specs.Prelude.{ℕ, ◌≡◌, ◌≢◌, ◌<◌, ◌≤◌, false, IsTrue, [], map, length, None}
use Rattle.std.specs.Prelude.{if◌then◌else◌, set}
use Rattle.warm_stamps.specs.declared.PageId.{PageId}
use Rattle.warm_devices.specs.Device.{DeviceState, page_at}
use Rattle.warm_frame_table.specs.declared.selection.Devices.TheVariants.{One}
use Rattle.warm_frame_table.specs.Frames.{nth_frame}
use Rattle.warm_frame_table.specs.Selection.{is_on, vacated_selected}
use Rattle.warm_pool.specs.declared.fault.PoolFault.{PoolFault}
use Rattle.warm_pool.specs.declared.fault.PoolFault.TheVariants.{SizeDiffers, NoDevice, Fixed}
use Rattle.warm_pool.specs.declared.fault.PoolFault.TheVariants.{Fault}
use Rattle.warm_pool.specs.State.{PoolState}
use Rattle.warm_pool.specs.View.{FrameView, PoolView, frame_at, contents_at, device_view, view_of}
use Rattle.warm_pool.specs.View.{HasPage, IsFixed, IsUnfixed}
use Rattle.warm_pool.specs.Unchanged.{FailsAt, KeepsContents}
use Rattle.warm_pool.specs.WritingBack.{WriteBackFails}

-- Emptying and closing

-- why a pool isn't emptied or closed, and what has then changed
abbrev pub EmptyRefused : PoolState → PoolFault → PoolState → Type 0
EmptyRefused old Fixed new = IsFixed (view_of old) × (new ≡ old)
EmptyRefused old Fault new = IsUnfixed (view_of old) × WriteBackFails old new
EmptyRefused old why new = ⊥

-- a frame without a page, of the same generation
abbrev pub emptied : FrameView → FrameView
emptied f = record f { page = None }

-- no page is in a frame; generations and the contents of honest devices are unchanged
pub record Emptied (old new : PoolView) : Type 0 where
  pub unfixed : IsUnfixed old
  pub becomes : new ≡ record old { frames = map emptied old.frames; contents = new.contents }
  pub contents : KeepsContents old new

-- Retiring

-- a page of the device is pinned
pub record IsFixedOn (v : PoolView) (dev : ℕ) : Type 0 where
  pub frame : ℕ
  pub there : frame < length v.frames
  pub on : IsTrue (is_on dev (frame_at v frame).page)
  pub fixed : 0 < (frame_at v frame).fixes

-- a device of this state may replace device dev, of which no page is pinned
pub record MayRetire (v : PoolView) (dev : ℕ) (device : DeviceState) : Type 0 where
  pub there : dev < length v.devices
  pub size : device.page_size ≡ v.page_size
  pub unfixed : (i : ℕ) → IsTrue (is_on dev (frame_at v i).page) → (frame_at v i).fixes ≡ 0

-- why device dev is not replaced: it may not be, or it was not written back; and what is then
-- unchanged
abbrev pub RetireRefused : PoolView → ℕ → DeviceState → PoolFault → PoolView → Type 0
RetireRefused old dev device NoDevice new = (length old.devices ≤ dev) × (new ≡ old)
RetireRefused old dev device SizeDiffers new = (dev < length old.devices)
    × (device.page_size ≢ old.page_size) × (new ≡ old)
RetireRefused old dev device Fixed new = (dev < length old.devices)
    × (device.page_size ≡ old.page_size) × IsFixedOn old dev × (new ≡ old)
RetireRefused old dev device Fault new = MayRetire old dev device × FailsAt old dev new
RetireRefused old dev device why new = ⊥

-- No page of the device is in a frame, and its contents, its number of pages and its count of
-- failures are those of the new device.
pub record Retired (old : PoolView) (dev : ℕ) (device : DeviceState) (new : PoolView) : Type 0 where
  pub may : MayRetire old dev device
  pub becomes : new ≡ record old {
    devices = set old.devices dev (device_view device);
    frames = map (λ f. if is_on dev f.page then emptied f else f) old.frames;
    contents = new.contents;
    failures = set old.failures dev device.failures;
  }
  pub contents : (n : ℕ) → n < device.pages
      → contents_at new (record { dev = dev; no = n })
      ≡ if device.honest then page_at device.contents n else []
  pub others : (p : PageId) → HasPage old p → p.dev ≢ dev → contents_at new p ≡ contents_at old p

-- each frame whose page is not of device dev is unchanged
abbrev pub KeepsElsewhere : ℕ → PoolState → PoolState → Type 0
KeepsElsewhere dev old new = (i : ℕ) → is_on dev (nth_frame old.frames i).page ≡ false
    → nth_frame new.frames i ≡ nth_frame old.frames i

-- the pool after another device has replaced device dev
abbrev pub retired : PoolState → ℕ → DeviceState → PoolState
retired s dev device =
    record s { frames = vacated_selected (One dev) s.frames; devices = set s.devices dev device }
