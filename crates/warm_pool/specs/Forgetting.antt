-- Forgetting the last pages of a device.
use Rattle.std.specs.Prelude.{ℕ, ◌≡◌, ◌≢◌, ◌⊎◌, ◌<◌, ◌≤◌, IsTrue, length}
use Rattle.warm_stamps.specs.declared.PageId.{PageId}
use Rattle.warm_frame_table.specs.declared.selection.Devices.TheVariants.{PagesFrom}
use Rattle.warm_frame_table.specs.Selection.{is_from, vacated_selected}
use Rattle.warm_pool.specs.declared.fault.PoolFault.{PoolFault}
use Rattle.warm_pool.specs.declared.fault.PoolFault.TheVariants.{NoDevice, Fixed}
use Rattle.warm_pool.specs.State.{PoolState}
use Rattle.warm_pool.specs.View.{PoolView, frame_at, contents_at, stored, view_of, HasPage}

-- none of the pages of the device with this number and above is pinned
abbrev pub AreUnfixedFrom : PoolView → ℕ → ℕ → Type 0
AreUnfixedFrom v dev from = (i : ℕ) → IsTrue (is_from dev from (frame_at v i).page)
    → (frame_at v i).fixes ≡ 0

-- the device is there, and none of its pages with this number and above is pinned
abbrev pub MayForget : PoolState → ℕ → ℕ → Type 0
MayForget s dev from = (dev < length s.devices) × AreUnfixedFrom (view_of s) dev from

-- The pages of the device with this number and above left their frames, and were not written. No
-- device has changed, so each of these pages has the bytes that its device has, and every other
-- page those that it had.
pub record Forgets (old : PoolState) (dev from : ℕ) (new : PoolState) : Type 0 where
  pub there : dev < length old.devices
  pub unfixed : AreUnfixedFrom (view_of old) dev from
  pub becomes : new ≡ record old { frames = vacated_selected (PagesFrom dev from) old.frames }
  pub forgotten : (p : PageId) → HasPage (view_of old) p → p.dev ≡ dev → from ≤ p.no
      → contents_at (view_of new) p ≡ stored old.devices p
  pub others : (p : PageId) → HasPage (view_of old) p → (p.dev ≢ dev) ⊎ (p.no < from)
      → contents_at (view_of new) p ≡ contents_at (view_of old) p

-- one of the pages of the device with this number and above is pinned
pub record IsFixedFrom (v : PoolView) (dev from : ℕ) : Type 0 where
  pub frame : ℕ
  pub there : frame < length v.frames
  pub is : IsTrue (is_from dev from (frame_at v frame).page)
  pub fixed : 0 < (frame_at v frame).fixes

-- why the pages of a device with this number and above are not forgotten
abbrev pub ForgetRefused : PoolState → ℕ → ℕ → PoolFault → PoolState → Type 0
ForgetRefused old dev from NoDevice new = (length old.devices ≤ dev) × (new ≡ old)
ForgetRefused old dev from Fixed new = (dev < length old.devices)
    × IsFixedFrom (view_of old) dev from × (new ≡ old)
ForgetRefused old dev from why new = ⊥
