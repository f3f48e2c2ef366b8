use Rattle.std.proofs.Common.{inr, arith}
use Rattle.warm_setup.proofs.DeviceArrayLemmas.{other_types, no_devices, many_devices, some_devices}
use Rattle.warm_setup.proofs.setup.devices_of.Goals as goal
use Rattle.warm_setup.proofs.setup.devices_of.Goals.{then-is_empty-via-then-is_empty, then-is_empty-via-else-is_empty+then-values-gt-MAX_LISTED_DEVICES}

pub returns-then-not-are_tables : goal.returns-then-not-are_tables
returns-then-not-are_tables c = inr (other_types c.args.values.now c.if-not-are_tables.ensures)

pub returns-then-is_empty : goal.returns-then-is_empty
returns-then-is_empty c = inr (elim c.then-is_empty.branch [
  | then-is_empty-via-then-is_empty w ↦ no_devices c.args.values.now c.if-not-are_tables.ensures (grind (arith, w.if-is_empty.ensures))
  | then-is_empty-via-else-is_empty+then-values-gt-MAX_LISTED_DEVICES w ↦ many_devices c.args.values.now c.if-not-are_tables.ensures w.if-values-gt-MAX_LISTED_DEVICES.true
])

pub returns : goal.returns
returns c = rw (some_devices c.args.values.now c.if-not-are_tables.ensures (grind (arith, c.if-is_empty.ensures)) c.if-values-gt-MAX_LISTED_DEVICES.false) c.each_device.ensures
