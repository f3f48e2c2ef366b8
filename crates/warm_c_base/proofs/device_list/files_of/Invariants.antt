use Rattle.std.proofs.Common.{◌≤◌, length, vec_capacity}
use Rattle.warm_c_base.proofs.device_list.files_of.Given as goal

-- no more files than devices so far, and capacity for one of each
abbrev pub invariant-loop-device : goal.invariant-loop-device
invariant-loop-device l = record {
  count : length l.files.items ≤ l.device-index;
  room : length l.devices ≤ vec_capacity l.files;
}
