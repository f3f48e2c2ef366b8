-- The state of a `Logged` device, and what its log was asked.
use Rattle.std.specs.Prelude.{◌≡◌, ℕ, ◌+◌, ◌-◌, ◌^◌, ◌||◌, min, false, List, Result, Err}
use Rattle.std.specs.Prelude.{IsTrue, IsOk, OnOk, OnErr, if◌then◌else◌}
use Rattle.warm_devices.specs.Calls.{no_calls, one_call}
use Rattle.warm_devices.specs.Device.{DeviceState, CountsFault, CountsCall, one_more}
use Rattle.warm_devices.specs.declared.fault.DeviceFault.{DeviceFault}
use Rattle.warm_devices.specs.declared.fault.DeviceFault.TheVariants.{Write, Flush}
use Rattle.warm_devices.specs.declared.log.NotYet.{NotYet}
use Rattle.warm_devices.specs.declared.logged.Logged.{Logged}

-- the device to which calls are forwarded
abbrev pub device_of : {D L : Type 0} → Logged D L → D
device_of f = f.device

-- the log that is asked before each write
abbrev pub log_of : {D L : Type 0} → Logged D L → L
log_of f = f.log

-- the number of writes that the log held back, saturating at the greatest `u64`
abbrev pub refused_of : {D L : Type 0} → Logged D L → ℕ
refused_of f = f.refused

-- The state of the device below, with the calls of the wrapper itself. A write that the log held
-- back is a failed one: it is counted, and the device is unflushed until the next flush.
abbrev pub logged_state : {D L : Type 0} → (D → DeviceState) → Logged D L → DeviceState
logged_state state f = record (state f.device) {
  waiting = f.held_back || (state f.device).waiting;
  failures = min ((state f.device).failures + f.refused) (2 ^ 64 - 1);
  calls = f.calls.made;
  unfailing = false;
}

-- the device, but not unfailing, with a count of failures that fits in 64 bits, and without a call
abbrev pub may_refuse : DeviceState → DeviceState
may_refuse d = record d {
  failures = min d.failures (2 ^ 64 - 1);
  calls = no_calls;
  unfailing = false;
}

-- One call of this kind was made of the device below, and no other. It was refused only if that
-- device counted a failure, and never if that device is unfailing.
pub record PassesOn {D L : Type 0} (state : D → DeviceState) (kind : DeviceFault)
    (result : Result (Unit {0}) DeviceFault) (old new : Logged D L) : Type 0 where
  pub once : CountsCall kind (state (device_of old)) (state (device_of new))
  pub faults : CountsFault kind result (state (device_of old)) (state (device_of new))
  pub unfailing : IsTrue (state (device_of old)).unfailing → IsOk result
  pub refused : refused_of new ≡ refused_of old

-- If something is unflushed, one flush was made of the device below, else no call. Afterwards
-- nothing is unflushed, if that device is unfailing.
pub record PassesSettleOn {D L : Type 0} (state : D → DeviceState)
    (old new : Logged D L) : Type 0 where
  pub once : (state (device_of new)).calls
      ≡ (if (logged_state state old).waiting then one_call Flush (state (device_of old)).calls
      else (state (device_of old)).calls)
  pub unfailing : IsTrue (state (device_of old)).unfailing
      → (logged_state state new).waiting ≡ false
  pub refused : refused_of new ≡ refused_of old

-- The log was asked for this page and these bytes. If it answered "not yet", the write failed,
-- a refusal is counted, and the device below was not called. Else the write was passed on.
pub record AsksFirst {D L : Type 0} (state : D → DeviceState)
    (answers : L → ℕ → List ℕ → Result (Unit {0}) NotYet → L → Type 0)
    (page : ℕ) (bytes : List ℕ) (result : Result (Unit {0}) DeviceFault)
    (old new : Logged D L) : Type 0 where
  pub answer : Result (Unit {0}) NotYet
  pub asked : answers (log_of old) page bytes answer (log_of new)
  pub held_back : OnErr answer ((result ≡ Err Write) × (device_of new ≡ device_of old)
      × (refused_of new ≡ one_more (refused_of old)))
  pub passed_on : OnOk answer (PassesOn state Write result old new)

-- the log was not asked
abbrev pub LeavesLog : {D L : Type 0} → Logged D L → Logged D L → Type 0
LeavesLog old new = log_of new ≡ log_of old
