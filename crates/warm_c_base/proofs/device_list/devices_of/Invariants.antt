use Rattle.std.proofs.Common.{◌≡◌, ◌≤◌, ◌<◌, ◌*◌, ◌^◌, Contains, length, map, take, vec_capacity}
use Rattle.warm_pool.specs.declared.TheConstants.{MAX_DEVICES}
use Rattle.warm_c_base.specs.declared.values.WarmDevice.{WarmDevice}
use Rattle.warm_c_base.specs.FdParts.{fd_state}
use Rattle.warm_c_base.specs.DeviceLists.{fd_devices}
use Rattle.warm_c_base.proofs.device_list.devices_of.Given as goal

-- the devices so far, whose pages fit, and capacity for all
abbrev pub invariant-loop-device : goal.invariant-loop-device
invariant-loop-device l = record {
  made : map fd_state l.made.items ≡ fd_devices l.page_size (take l.device-index l.devices);
  count : length l.made.items ≡ l.device-index;
  room : length l.devices ≤ vec_capacity l.made;
  few : length l.devices ≤ MAX_DEVICES;
  fit : (d : WarmDevice) → Contains (take l.device-index l.devices) d → d.pages * l.page_size < 2 ^ 63;
}
