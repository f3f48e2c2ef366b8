-- What an `FdDevice` shows: what its file holds is unknown, and it claims nothing of it.
use Rattle.std.specs.Prelude.{ℕ, ℤ, pos, negsuc, ◌≡◌, Bool, false, List, [], ◌∷◌, IsTrue}
use Rattle.warm_devices.specs.Calls.{DeviceCalls, no_calls}
use Rattle.warm_devices.specs.Device.{DeviceState}
use Rattle.warm_c_base.specs.declared.device_file.DeviceFile.{DeviceFile}
use Rattle.warm_c_base.specs.declared.fd_device.FdDevice.{FdDevice}

-- The number of a descriptor, in the place of contents. A device that is not honest claims nothing
-- of these: here they say over which descriptor it is, which no call changes.
abbrev pub descriptor_shown : ℤ → List (List ℕ)
descriptor_shown (pos n) = (n ∷ []) ∷ []
descriptor_shown (negsuc n) = (n ∷ 0 ∷ []) ∷ []

-- a device over a descriptor, with these pages, failures and calls, and whether something waits
abbrev pub fd_device : ℤ → ℕ → ℕ → Bool → ℕ → DeviceCalls → DeviceState
fd_device fd pages page_size waiting failures calls = record {
  pages = pages;
  page_size = page_size;
  contents = descriptor_shown fd;
  waiting = waiting;
  failures = failures;
  calls = calls;
  honest = false;
  unfailing = false;
}

-- what an `FdDevice` shows
abbrev pub fd_state : FdDevice → DeviceState
fd_state f = fd_device f.file.descriptor.fd f.pages f.page_size f.waiting f.failures f.calls.made

-- a device over a descriptor of which nothing was asked yet
abbrev pub fd_opened : ℤ → ℕ → ℕ → DeviceState
fd_opened fd pages page_size = fd_device fd pages page_size false 0 no_calls

-- A flush fails if one has failed before, with the errno of that one. One that fails is remembered.
-- The system may report a lost write once, and then no more.
pub record Remembers (old : DeviceFile) (flushed : Bool) (new : DeviceFile) : Type 0 where
  pub fails : IsTrue old.flush_failed → flushed ≡ false
  pub keeps : flushed ≡ false → IsTrue new.flush_failed
  pub error : IsTrue old.flush_failed → new.error ≡ old.flush_error
