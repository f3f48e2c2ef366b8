-- Counts and failed calls as C has them, in the pool's terms.
use Rattle.std.specs.Prelude.{ℕ, ℤ, ◌≡◌, Option, Some, None}
use Rattle.warm_devices.specs.Faults.{device_fault_code}
use Rattle.warm_pool.specs.declared.tally.FailedCall.{FailedCall}
use Rattle.warm_pool.specs.declared.tally.PoolCounts.{PoolCounts}
use Rattle.warm_c_base.specs.declared.counters.WarmCounters.{WarmCounters}
use Rattle.warm_c_base.specs.declared.counters.WarmFailure.{WarmFailure}

-- the counts of a pool as C has them, with these numbers of resident and dirty pages
abbrev pub c_counters : PoolCounts → ℕ → ℕ → WarmCounters
c_counters counts resident dirty = record {
  hits = counts.hits;
  misses = counts.misses;
  evictions = counts.evictions;
  written_back = counts.written_back;
  resident = resident;
  dirty = dirty;
}

-- the number of a page; a flush is of none, and has 0
abbrev pub page_number : Option ℕ → ℕ
page_number None = 0
page_number (Some n) = n

-- a failed call as C has it
abbrev pub c_failure : FailedCall → ℤ → WarmFailure
c_failure f error = record {
  no = page_number f.page;
  dev = f.dev;
  what = device_fault_code f.what;
  error = error;
}

-- whether a call has failed, as a bool of C, and which; failure is as it was if none has
abbrev pub IsOptionalFailure : Option FailedCall → ℤ → WarmFailure → ℕ → WarmFailure → Type 0
IsOptionalFailure None error before found failure = (found ≡ 0) × (failure ≡ before)
IsOptionalFailure (Some f) error before found failure = (found ≡ 1)
    × (failure ≡ c_failure f error)
