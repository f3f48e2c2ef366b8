-- The counts of a `Counted` device, and what each call adds to them.
use Rattle.std.specs.Prelude.{if◌then◌else◌}
use Rattle.warm_devices.specs.Calls.{DeviceCalls}
use Rattle.warm_devices.specs.Device.{DeviceState, one_more}
use Rattle.warm_devices.specs.declared.counted.Counted.{Counted}
use Rattle.warm_devices.specs.declared.device.PageDevice.{Ghosts}
use Rattle.warm_devices.specs.declared.counted.DeviceCounts.{DeviceCounts}

-- the device to which calls are forwarded
abbrev pub inner_of : {D : Type 0} {g : Ghosts D} → Counted D g → D
inner_of c = c.inner

-- the calls that were counted
abbrev pub calls_of : {D : Type 0} {g : Ghosts D} → Counted D g → DeviceCounts
calls_of c = c.calls

-- the calls that had been made of the device before it was counted
abbrev pub before_of : {D : Type 0} {g : Ghosts D} → Counted D g → DeviceCalls
before_of {D} {g} c = (g.state c.before.value).calls

-- no call was counted
abbrev pub none_counted : DeviceCounts
none_counted = record { reads = 0; writes = 0; flushes = 0 }

-- one read more, saturating at the greatest `u64`
abbrev pub one_read : DeviceCounts → DeviceCounts
one_read n = record n { reads = one_more n.reads }

-- one write more, saturating at the greatest `u64`
abbrev pub one_write : DeviceCounts → DeviceCounts
one_write n = record n { writes = one_more n.writes }

-- one flush more, saturating at the greatest `u64`
abbrev pub one_flush : DeviceCounts → DeviceCounts
one_flush n = record n { flushes = one_more n.flushes }

-- the flush of a device as it settles, which is made if something is unflushed
abbrev pub flush_if_waiting : DeviceState → DeviceCounts → DeviceCounts
flush_if_waiting d n = if d.waiting then one_flush n else n
