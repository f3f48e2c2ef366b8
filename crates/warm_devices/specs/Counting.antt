-- What the counts of a `Counted` device say.
use Rattle.std.specs.Prelude.{◌≡◌, ◌≤◌, ◌-◌, ◌^◌, min}
use Rattle.warm_devices.specs.Calls.{DeviceCalls}
use Rattle.warm_devices.specs.declared.counted.DeviceCounts.{DeviceCounts}

-- The counts are the calls that were made of a device since a moment, each saturating at the
-- greatest `u64`: between two states of its calls, of which the first was earlier.
pub record CountsSince (before now : DeviceCalls) (counts : DeviceCounts) : Type 0 where
  pub reads_later : before.reads ≤ now.reads
  pub writes_later : before.writes ≤ now.writes
  pub flushes_later : before.flushes ≤ now.flushes
  pub reads : counts.reads ≡ min (now.reads - before.reads) (2 ^ 64 - 1)
  pub writes : counts.writes ≡ min (now.writes - before.writes) (2 ^ 64 - 1)
  pub flushes : counts.flushes ≡ min (now.flushes - before.flushes) (2 ^ 64 - 1)
