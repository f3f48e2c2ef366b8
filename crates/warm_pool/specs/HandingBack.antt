-- Devices that a pool hands back: its caller owns them from then on.
use Rattle.std.specs.Prelude.{ℕ, ◌≡◌, ◌<◌, false, IsTrue, List, length}
use Rattle.warm_devices.specs.Device.{DeviceState, SameShape, page_at}
use Rattle.warm_pool.specs.State.{PoolState, nth_device}
use Rattle.warm_pool.specs.View.{contents_at, view_of}

-- This is device dev of the pool. Nothing of it is unflushed, and if it is honest it has the bytes
-- that the pool showed of each of its pages. No call of it failed meanwhile.
pub record HandsBackOne (s : PoolState) (dev : ℕ) (device : DeviceState) : Type 0 where
  pub flushed : device.waiting ≡ false
  pub shape : SameShape (nth_device s.devices dev) device
  pub failures : device.failures ≡ (nth_device s.devices dev).failures
  pub contents : IsTrue device.honest → (n : ℕ) → n < device.pages
      → page_at device.contents n ≡ contents_at (view_of s) (record { dev = dev; no = n })

-- these are all devices of the pool, in their order
pub record HandsBack (s : PoolState) (devices : List DeviceState) : Type 0 where
  pub count : length devices ≡ length s.devices
  pub each : (k : ℕ) → k < length s.devices → HandsBackOne s k (nth_device devices k)
