-- What the calls on the devices of a handle do.
use Rattle.std.specs.Prelude.{ℕ, ◌*◌, ◌^◌, ◌<◌, ◌≡◌, ◌⊎◌, List, length, set, Ok, Err}
use Rattle.warm_devices.specs.Device.{DeviceState}
use Rattle.warm_pool.specs.Retiring.{KeepsElsewhere, RetireRefused, Retired}
use Rattle.warm_pool.specs.View.{view_of}
use Rattle.warm_pool.specs.WritingSome.{StopsAtDevice}
use Rattle.warm_pool.specs.declared.fault.PoolFault.TheVariants.{Fault, NoDevice}
use Rattle.warm_gossip.specs.declared.fault.NodeFault.TheVariants.{Memory, Pool}
use Rattle.warm_gossip.specs.Clauses.{SameView}
use Rattle.warm_c_calls.specs.declared.open_node.OpenNode.{OpenNode}
use Rattle.warm_c_base.specs.declared.status.Refusal.{Refusal}
use Rattle.warm_c_base.specs.declared.status.Refusal.TheVariants.{Node, SameFile}
use Rattle.warm_c_base.specs.declared.values.WarmDevice.{WarmDevice}
use Rattle.warm_c_base.specs.FdParts.{fd_opened}
use Rattle.warm_c_calls.specs.Calls.{Ending, SameDevices}
use Rattle.warm_c_base.specs.DeviceLists.{DescriptorsDiffer, HaveOneFile}

-- Replacing a device

-- the devices of the handle, with this one in the place of another
abbrev pub devices_after : ℕ → WarmDevice → OpenNode → List WarmDevice
devices_after dev d h = set h.devices dev d

-- the new device, as the pool has it after it replaced another
abbrev pub made_device : WarmDevice → OpenNode → DeviceState
made_device d h = fd_opened d.fd d.pages h.node.pool.page_size

-- the handle has a device of this number, and the pages of the new one fit into what a file's
-- offsets can name
pub record MayStand (dev : ℕ) (d : WarmDevice) (h : OpenNode) : Type 0 where
  pub listed : dev < length h.devices
  pub fits : d.pages * h.node.pool.page_size < 2 ^ 63

-- the id and the history are as they were
pub record KeepsHistory (old new : OpenNode) : Type 0 where
  pub id : new.node.id ≡ old.node.id
  pub history : new.node.history ≡ old.node.history

-- The device is retired for the new one, and no two devices have one descriptor. The frames of
-- pages of other devices are unchanged.
pub record Replaced (dev : ℕ) (d : WarmDevice) (old new : OpenNode) : Type 0 where
  pub may : MayStand dev d old
  pub apart : DescriptorsDiffer (devices_after dev d old)
  pub retired : Retired (view_of old.node.pool) dev (made_device d old) (view_of new.node.pool)
  pub elsewhere : KeepsElsewhere dev old.node.pool new.node.pool
  pub devices : new.devices ≡ devices_after dev d old
  pub keeps : KeepsHistory old new

-- why a device is not replaced; the devices are as they were
abbrev pub ReplaceRefused : ℕ → WarmDevice → OpenNode → Refusal → OpenNode → Type 0
ReplaceRefused dev d old (Node Memory) new = new ≡ old
ReplaceRefused dev d old (Node (Pool NoDevice)) new =
    (MayStand dev d old → dev < length old.node.pool.devices → ⊥)
    × SameView old.node new.node × SameDevices old new
ReplaceRefused dev d old SameFile new = MayStand dev d old
    × HaveOneFile (devices_after dev d old) × (new ≡ old)
ReplaceRefused dev d old (Node (Pool why)) new = MayStand dev d old
    × DescriptorsDiffer (devices_after dev d old)
    × RetireRefused (view_of old.node.pool) dev (made_device d old) why (view_of new.node.pool)
    × (why ≡ Fault → StopsAtDevice dev old.node.pool new.node.pool)
    × KeepsHistory old new × SameDevices old new
ReplaceRefused dev d old why new = ⊥

-- the device is replaced, or the call says why not; the frames of pages of other devices are
-- unchanged either way
abbrev pub Replaces : ℕ → WarmDevice → OpenNode → Ending → OpenNode → Type 0
Replaces dev d old (Ok given) new = Replaced dev d old new
Replaces dev d old (Err why) new = ReplaceRefused dev d old why new
    × KeepsElsewhere dev old.node.pool new.node.pool

-- Asking before

-- why the new device could not stand in the place of the old one, by what is known before a page of
-- the old one is looked at
abbrev pub MayNotStand : ℕ → WarmDevice → OpenNode → Refusal → Type 0
MayNotStand dev d h why = (why ≡ Node Memory)
    ⊎ ((why ≡ Node (Pool NoDevice)) × (MayStand dev d h → ⊥))
    ⊎ ((why ≡ SameFile) × MayStand dev d h × HaveOneFile (devices_after dev d h))

-- whether the new device could stand in the place of the old one; nothing has changed
abbrev pub SaysMayStand : ℕ → WarmDevice → OpenNode → Ending → OpenNode → Type 0
SaysMayStand dev d h (Ok given) new = MayStand dev d h × DescriptorsDiffer (devices_after dev d h)
    × (new ≡ h)
SaysMayStand dev d h (Err why) new = MayNotStand dev d h why × (new ≡ h)
