-- The effect on the device list of a call of one device.
use Rattle.std.specs.Prelude.{◌≡◌, ◌<◌, ℕ, IsTrue, IsOk, List, set, Result, OnOk, true}
use Rattle.warm_devices.specs.Device.{DeviceState, SameShape, CountsFault, ChangesPage, page_at}
use Rattle.warm_devices.specs.Calls.{one_call}
use Rattle.warm_devices.specs.Device.{CountsCall, one_more}
use Rattle.warm_devices.specs.declared.fault.DeviceFault.{DeviceFault}
use Rattle.warm_devices.specs.declared.fault.DeviceFault.TheVariants.{Read, Write}
use Rattle.warm_pool.specs.State.{nth_device}

-- each of the first n devices has pages of this size
abbrev pub AreOfSize : ℕ → ℕ → List DeviceState → Type 0
AreOfSize size n devices = (k : ℕ) → k < n → (nth_device devices k).page_size ≡ size

-- page n of a device was read into bytes
pub record ReadsPage (d after : DeviceState) (n : ℕ) (bytes : List ℕ)
    (result : Result (Unit {0}) DeviceFault) : Type 0 where
  pub shape : SameShape d after
  pub faults : CountsFault Read result d after
  pub calls : CountsCall Read d after
  pub unfailing : IsTrue d.unfailing → IsOk result
  pub waiting : after.waiting ≡ d.waiting
  pub contents : after.contents ≡ d.contents
  pub read : OnOk result (IsTrue d.honest → bytes ≡ page_at d.contents n)

-- bytes were written to page n of a device
pub record WritesPage (d after : DeviceState) (n : ℕ) (bytes : List ℕ)
    (result : Result (Unit {0}) DeviceFault) : Type 0 where
  pub shape : SameShape d after
  pub faults : CountsFault Write result d after
  pub calls : CountsCall Write d after
  pub unfailing : IsTrue d.unfailing → IsOk result
  pub waiting : after.waiting ≡ true
  pub others : ChangesPage n d.contents after.contents
  pub written : OnOk result (IsTrue d.honest → page_at after.contents n ≡ bytes)

-- page n of device k of a list was read, and no other device of the list has changed
pub record PageRead (old new : List DeviceState) (k n : ℕ) (bytes : List ℕ)
    (result : Result (Unit {0}) DeviceFault) : Type 0 where
  pub after : DeviceState
  pub becomes : new ≡ set old k after
  pub call : ReadsPage (nth_device old k) after n bytes result

-- bytes were written to page n of device k of a list, and no other device of the list has changed
pub record PageWrite (old new : List DeviceState) (k n : ℕ) (bytes : List ℕ)
    (result : Result (Unit {0}) DeviceFault) : Type 0 where
  pub after : DeviceState
  pub becomes : new ≡ set old k after
  pub call : WritesPage (nth_device old k) after n bytes result

-- the devices after one read of device k that succeeded: nothing but its calls has changed
abbrev pub read_at : ℕ → List DeviceState → List DeviceState
read_at k devices = set devices k
    (record (nth_device devices k) { calls = one_call Read (nth_device devices k).calls })

-- the devices after one read of device k that failed: one more failure is counted there too
abbrev pub failed_at : ℕ → List DeviceState → List DeviceState
failed_at k devices = set devices k
    (record (nth_device devices k) {
      failures = one_more (nth_device devices k).failures;
      calls = one_call Read (nth_device devices k).calls;
    })
