-- The state of a `HookedDevice`: that of the device in memory to which calls are forwarded.
use Rattle.warm_devices.specs.Device.{DeviceState}
use Rattle.test_kit.specs.declared.hooked.HookedDevice.{HookedDevice}

-- the state of the device in memory
abbrev pub hooked_state : {H : Type 0} → HookedDevice H → DeviceState
hooked_state d = d.inner
