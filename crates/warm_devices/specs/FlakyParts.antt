-- The state of a `Flaky`.
use Rattle.std.specs.Prelude.{◌≡◌, ◌≢◌, ℕ, ◌+◌, ◌-◌, ◌^◌, min, replicate, false, IsTrue, IsOk}
use Rattle.std.specs.Prelude.{Result, Err, if◌then◌else◌}
use Rattle.warm_devices.specs.Calls.{no_calls}
use Rattle.warm_devices.specs.Device.{DeviceState, CountsCall, CountsSettle, SameWaiting, page_at}
use Rattle.warm_devices.specs.declared.fault.DeviceFault.{DeviceFault}
use Rattle.warm_devices.specs.declared.device.PageDevice.{Ghosts}
use Rattle.warm_devices.specs.declared.flaky.Flaky.{Flaky}

-- the device to which calls are forwarded
abbrev pub inner_of : {D : Type 0} {g : Ghosts D} → Flaky D g → D
inner_of f = f.inner

-- the number of calls up to and including the one that fails, or 0 if none is to fail
abbrev pub calls_left : {D : Type 0} {g : Ghosts D} → Flaky D g → ℕ
calls_left f = f.calls_left

-- the state of the inner device, with the injected failures counted too, and with the calls of the
-- wrapper itself
abbrev pub flaky_state : {D : Type 0} {g : Ghosts D} → Flaky D g → DeviceState
flaky_state {D} {g} f = record (g.state f.inner) {
  failures = min ((g.state f.inner).failures + f.failed) (2 ^ 64 - 1);
  calls = f.calls.made;
  unfailing = false;
}

-- The call fails when calls_left is 1; over an unfailing device no other call fails. Each call is
-- counted. One that does not fail here makes this call of the inner device, and no other.
pub record FailsWhenDue {D : Type 0} {g : Ghosts D} (kind : DeviceFault)
    (result : Result (Unit {0}) DeviceFault) (old new : Flaky D g) : Type 0 where
  pub counted : calls_left new ≡ calls_left old - 1
  pub due : calls_left old ≡ 1 → result ≡ Err kind
  pub passed_on : calls_left old ≢ 1 → IsTrue (g.state old.inner).unfailing → IsOk result
  pub once : calls_left old ≢ 1 → CountsCall kind (g.state old.inner) (g.state new.inner)

-- the call that is to fail does not reach the inner device
abbrev pub StopsWhenDue : {D : Type 0} {g : Ghosts D} → Flaky D g → Flaky D g → Type 0
StopsWhenDue old new = calls_left old ≡ 1 → inner_of new ≡ inner_of old

-- the device, but not unfailing, with a count of failures that fits in 64 bits, and without a call
abbrev pub may_fail : DeviceState → DeviceState
may_fail d = record d {
  failures = min d.failures (2 ^ 64 - 1);
  calls = no_calls;
  unfailing = false;
}

-- the write that is to fail fills the page with EE (hexadecimal), over an unfailing and honest
-- device
abbrev pub TearsWhenDue : {D : Type 0} {g : Ghosts D} → ℕ → Flaky D g → Flaky D g → Type 0
TearsWhenDue {D} {g} page old new =
    calls_left old ≡ 1 → IsTrue (g.state old.inner).unfailing → IsTrue (g.state old.inner).honest
    → page_at (flaky_state new).contents page ≡ replicate (g.state old.inner).page_size 0xEE

-- A flush counts as a call if something is unflushed. If the next call is the one that is to fail,
-- no flush reaches the inner device, and what is unflushed stays so; over an unfailing device any
-- other flush leaves nothing unflushed.
pub record SettlesUnlessDue {D : Type 0} {g : Ghosts D} (old new : Flaky D g) : Type 0 where
  pub counted : calls_left new
      ≡ (if (flaky_state old).waiting then calls_left old - 1 else calls_left old)
  pub due : calls_left old ≡ 1 → SameWaiting (flaky_state old) (flaky_state new)
  pub stopped : StopsWhenDue old new
  pub passed_on : calls_left old ≢ 1 → IsTrue (g.state old.inner).unfailing
      → (flaky_state new).waiting ≡ false
  pub once : calls_left old ≢ 1 → CountsSettle (g.state old.inner) (g.state new.inner)
