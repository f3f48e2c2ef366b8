-- How often a pool flushes its devices, and whether it reads them.
use Rattle.std.specs.Prelude.{◌≡◌, ◌≤◌, ◌+◌, ℕ, List}
use Rattle.warm_devices.specs.Device.{DeviceState}
use Rattle.warm_pool.specs.State.{nth_device}

-- no device was flushed
abbrev pub FlushesNone : List DeviceState → List DeviceState → Type 0
FlushesNone old new =
    (k : ℕ) → (nth_device new k).calls.flushes ≡ (nth_device old k).calls.flushes

-- each device was flushed at most once
abbrev pub FlushesOnce : List DeviceState → List DeviceState → Type 0
FlushesOnce old new =
    (k : ℕ) → (nth_device new k).calls.flushes ≤ (nth_device old k).calls.flushes + 1

-- no device was read
abbrev pub ReadsNone : List DeviceState → List DeviceState → Type 0
ReadsNone old new =
    (k : ℕ) → (nth_device new k).calls.reads ≡ (nth_device old k).calls.reads
