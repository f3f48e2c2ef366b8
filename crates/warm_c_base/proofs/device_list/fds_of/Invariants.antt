use Rattle.std.proofs.Common.{◌≡◌, ◌≤◌, length, map, take, vec_capacity}
use Rattle.warm_c_base.proofs.device_list.fds_of.Given as goal

-- the descriptors so far, and capacity for all
abbrev pub invariant-loop-device : goal.invariant-loop-device
invariant-loop-device l = record {
  made : l.fds.items ≡ map (λ d. d.fd) (take l.device-index l.devices);
  count : length l.fds.items ≡ l.device-index;
  room : length l.devices ≤ vec_capacity l.fds;
}
