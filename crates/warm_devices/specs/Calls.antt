-- How many calls were made of a device. The counts exist in proofs alone, and have no limit.
use Rattle.std.specs.Prelude.{ℕ, ◌+◌}
use Rattle.warm_devices.specs.declared.fault.DeviceFault.{DeviceFault}
use Rattle.warm_devices.specs.declared.fault.DeviceFault.TheVariants.{Read, Write, Flush}

-- the reads, the writes and the flushes since the device was made, whether they failed or not
pub record DeviceCalls : Type 0 where
  pub reads : ℕ
  pub writes : ℕ
  pub flushes : ℕ

-- no call was made
abbrev pub no_calls : DeviceCalls
no_calls = record { reads = 0; writes = 0; flushes = 0 }

-- one call more of the kind that fails with this fault
abbrev pub one_call : DeviceFault → DeviceCalls → DeviceCalls
one_call Read n = record n { reads = n.reads + 1 }
one_call Write n = record n { writes = n.writes + 1 }
one_call Flush n = record n { flushes = n.flushes + 1 }
