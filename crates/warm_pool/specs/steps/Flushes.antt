-- The effect of flushing the devices of a list.
use Rattle.std.specs.Prelude.{◌≡◌, ℕ, ◌<◌, ◌≤◌, true, false, List, length, set, Result, OnOk, OnErr}
use Rattle.warm_devices.specs.Device.{DeviceState, SameShape, CountsSettle, one_more}
use Rattle.warm_devices.specs.declared.fault.DeviceFault.{DeviceFault}
use Rattle.warm_pool.specs.State.{nth_device}

-- the device has nothing unflushed, and nothing else has changed; it was flushed once, if it was
-- unflushed
pub record IsFlushed (old new : DeviceState) : Type 0 where
  pub shape : SameShape old new
  pub contents : new.contents ≡ old.contents
  pub failures : new.failures ≡ old.failures
  pub calls : CountsSettle old new
  pub waiting : new.waiting ≡ false

-- the flush failed: the device is still unflushed, and its count of failures has increased
pub record FlushFails (old new : DeviceState) : Type 0 where
  pub may : old.unfailing ≡ false
  pub shape : SameShape old new
  pub contents : new.contents ≡ old.contents
  pub failures : new.failures ≡ one_more old.failures
  pub calls : CountsSettle old new
  pub waiting : new.waiting ≡ true

-- device k was flushed, if it was unflushed
pub record DeviceFlush (old new : List DeviceState) (k : ℕ)
    (result : Result (Unit {0}) DeviceFault) : Type 0 where
  pub after : DeviceState
  pub becomes : new ≡ set old k after
  pub done : OnOk result (IsFlushed (nth_device old k) after)
  pub failed : OnErr result (FlushFails (nth_device old k) after)

-- the first n devices were flushed, and the others are unchanged
pub record FlushedTo (n : ℕ) (old new : List DeviceState) : Type 0 where
  pub count : length new ≡ length old
  pub done : (k : ℕ) → k < n → IsFlushed (nth_device old k) (nth_device new k)
  pub rest : (k : ℕ) → n ≤ k → nth_device new k ≡ nth_device old k

-- the devices before one were flushed, its own flush failed, and those after it are unchanged
pub record FlushStops (old new : List DeviceState) : Type 0 where
  pub device : ℕ
  pub there : device < length old
  pub count : length new ≡ length old
  pub done : (k : ℕ) → k < device → IsFlushed (nth_device old k) (nth_device new k)
  pub fails : FlushFails (nth_device old device) (nth_device new device)
  pub rest : (k : ℕ) → device < k → nth_device new k ≡ nth_device old k

-- no device is unflushed
abbrev pub NoneWaits : List DeviceState → Type 0
NoneWaits devices = (k : ℕ) → (nth_device devices k).waiting ≡ false
