-- Lists of devices over descriptors: which may be opened together, and why others are not.
use Rattle.std.specs.Prelude.{ℕ, ◌*◌, ◌^◌, ◌<◌, ◌≤◌, ◌≡◌, ◌≢◌, ◌⊎◌, List, map, length, Contains}
use Rattle.std.specs.List.{AllPairs}
use Rattle.warm_devices.specs.Device.{DeviceState}
use Rattle.warm_pool.specs.declared.TheConstants.{MAX_DEVICES}
use Rattle.warm_pool.specs.declared.fault.PoolFault.TheVariants.{NoDevice}
use Rattle.warm_gossip.specs.declared.fault.NodeFault.TheVariants.{Memory, Pool}
use Rattle.warm_c_base.specs.declared.status.Refusal.{Refusal}
use Rattle.warm_c_base.specs.declared.status.Refusal.TheVariants.{Node, SameFile}
use Rattle.warm_c_base.specs.declared.values.WarmDevice.{WarmDevice}
use Rattle.warm_c_base.specs.FdParts.{fd_opened}

-- the devices over these file descriptors, with pages of this size
abbrev pub fd_devices : ℕ → List WarmDevice → List DeviceState
fd_devices page_size devices = map (λ d. fd_opened d.fd d.pages page_size) devices

-- there are no more devices than a pool takes, and their pages fit into what a file's offsets can
-- name
pub record AreDevices (page_size : ℕ) (devices : List WarmDevice) : Type 0 where
  pub few : length devices ≤ MAX_DEVICES
  pub fit : (d : WarmDevice) → Contains devices d → d.pages * page_size < 2 ^ 63

-- no two of these are equal
abbrev pub AllDiffer : {A : Type 0} → List A → Type 0
AllDiffer items = AllPairs (λ x y. x ≢ y) items

-- no two devices have one descriptor
abbrev pub DescriptorsDiffer : List WarmDevice → Type 0
DescriptorsDiffer devices = AllDiffer (map (λ d. d.fd) devices)

-- Two devices are of one file: they have one descriptor, or the system gave identities of the files
-- of some devices, and two are equal. Which identities it gives is nothing that a contract can say.
abbrev pub HaveOneFile : List WarmDevice → Type 0
HaveOneFile devices = (DescriptorsDiffer devices → ⊥)
    ⊎ ((files : List ℕ) × (length files ≤ length devices) × (AllDiffer files → ⊥))

-- why devices are not checked to be of different files
abbrev pub IsClash : List WarmDevice → Refusal → Type 0
IsClash devices why = (why ≡ Node Memory) ⊎ ((why ≡ SameFile) × HaveOneFile devices)

-- why no devices are made: there are too many or too large ones, which comes first; or two are of
-- one file; or an allocation failed
abbrev pub DevicesRefused : ℕ → List WarmDevice → Refusal → Type 0
DevicesRefused page_size devices (Node Memory) = Unit {0}
DevicesRefused page_size devices (Node (Pool NoDevice)) = AreDevices page_size devices → ⊥
DevicesRefused page_size devices SameFile = AreDevices page_size devices × HaveOneFile devices
DevicesRefused page_size devices why = ⊥
