-- The state of a `FileDevice`: its contents are unknown, and it claims neither to be honest nor
-- unfailing. Once a flush has failed, each later one fails.
use Rattle.std.specs.Prelude.{◌≡◌, ◌||◌, Bool, true, false, IsTrue, [], Result, MatchResult}
use Rattle.warm_devices.specs.Device.{DeviceState, SameWaiting}
use Rattle.warm_devices.specs.declared.fault.DeviceFault.{DeviceFault}
use Rattle.warm_devices.specs.declared.file.FileDevice.{FileDevice}

-- what contracts of devices say of a file: its pages and calls are known, its contents are not
abbrev pub file_state : FileDevice → DeviceState
file_state f = record {
  pages = f.pages;
  page_size = f.page_size;
  contents = [];
  waiting = f.waiting;
  failures = f.failures;
  calls = f.calls.made;
  honest = false;
  unfailing = false;
}

-- whether a flush has failed since the file was opened
abbrev pub flush_failed : FileDevice → Bool
flush_failed f = f.flush_failed

-- a flush succeeds only if none has failed before, and one that fails is remembered
abbrev pub RemembersFailure : Result (Unit {0}) DeviceFault → FileDevice → FileDevice → Type 0
RemembersFailure result old new =
    MatchResult result (λ _. (flush_failed old ≡ false) × (flush_failed new ≡ false))
    (λ _. flush_failed new ≡ true)

-- If a flush has failed before, what is unflushed stays so. A flush that fails here is remembered.
pub record SettlesUnlessFailed (old new : FileDevice) : Type 0 where
  pub refused : IsTrue (flush_failed old) → SameWaiting (file_state old) (file_state new)
  pub remembered : flush_failed new ≡ (flush_failed old || (file_state new).waiting)
