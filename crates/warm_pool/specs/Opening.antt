-- Making a pool.
use Rattle.std.specs.Prelude.{ℕ, ◌≡◌, ◌<◌, ◌≤◌, List, length}
use Rattle.warm_rank.specs.declared.TheConstants.{MAX_FRAMES}
use Rattle.warm_devices.specs.declared.TheConstants.{MAX_PAGE_SIZE}
use Rattle.warm_devices.specs.Device.{DeviceState}
use Rattle.warm_pool.specs.declared.fault.NewPoolFault.{NewPoolFault}
use Rattle.warm_pool.specs.declared.fault.NewPoolFault.TheVariants.{Memory, BadFrames, SizeDiffers}
use Rattle.warm_pool.specs.State.{nth_device}

-- a number from 1 to the given one
abbrev pub IsUpTo : ℕ → ℕ → Type 0
IsUpTo most n = (0 < n) × (n ≤ most)

-- a valid page size of a pool over these devices
pub record IsSize (size : ℕ) (devices : List DeviceState) : Type 0 where
  pub range : IsUpTo MAX_PAGE_SIZE size
  pub each : (k : ℕ) → k < length devices → (nth_device devices k).page_size ≡ size

-- Why a pool of this many frames, with pages of this size, over these devices is refused. Memory
-- occurs only on an allocation failure.
abbrev pub NewPoolRefused : ℕ → ℕ → List DeviceState → NewPoolFault → Type 0
NewPoolRefused frames size devices BadFrames = IsUpTo MAX_FRAMES frames → ⊥
NewPoolRefused frames size devices SizeDiffers = IsUpTo MAX_FRAMES frames
    × (IsSize size devices → ⊥)
NewPoolRefused frames size devices Memory = IsUpTo MAX_FRAMES frames × IsSize size devices
