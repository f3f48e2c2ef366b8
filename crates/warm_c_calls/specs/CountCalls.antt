-- What the calls write that say what was counted, and which call of a device failed last.
use Rattle.std.specs.Prelude.{ℕ, ℤ, ◌<◌, ◌≡◌, length, Option, Ok, Err}
use Rattle.warm_frame_table.specs.Frames.{dirty_count}
use Rattle.warm_pool.specs.declared.fault.PoolFault.TheVariants.{NoDevice}
use Rattle.warm_pool.specs.declared.tally.FailedCall.{FailedCall}
use Rattle.warm_pool.specs.Residents.{resident_pages}
use Rattle.warm_pool.specs.State.{nth_device}
use Rattle.warm_pool.specs.View.{view_of}
use Rattle.warm_gossip.specs.declared.fault.NodeFault.TheVariants.{Pool}
use Rattle.warm_c_base.specs.declared.counters.WarmCounters.{WarmCounters}
use Rattle.warm_c_base.specs.declared.counters.WarmDeviceCounters.{WarmDeviceCounters}
use Rattle.warm_c_base.specs.declared.counters.WarmFailure.{WarmFailure}
use Rattle.warm_c_calls.specs.declared.open_node.OpenNode.{OpenNode}
use Rattle.warm_c_base.specs.declared.status.Refusal.TheVariants.{Node}
use Rattle.warm_c_calls.specs.Calls.{Ending}
use Rattle.warm_c_base.specs.Counters.{IsOptionalFailure}

-- This many pages are resident and dirty, and the handle is as it was. Of hits, misses, evictions
-- and pages written back no clause says anything: what a pool counts is no part of its state.
pub record CountsPool (counters : WarmCounters) (old new : OpenNode) : Type 0 where
  pub resident : counters.resident ≡ length (resident_pages (view_of old.node.pool))
  pub dirty : counters.dirty ≡ dirty_count old.node.pool.frames
  pub same : new ≡ old

-- This many calls of the device failed; or there is no device of this number, and nothing is
-- written.
abbrev pub CountsDevice : ℕ → WarmDeviceCounters → WarmDeviceCounters → OpenNode → Ending
    → OpenNode → Type 0
CountsDevice dev before after old (Ok given) new = (dev < length old.node.pool.devices)
    × (after.failures ≡ (nth_device old.node.pool.devices dev).failures) × (new ≡ old)
CountsDevice dev before after old (Err (Node (Pool NoDevice))) new =
    (dev < length old.node.pool.devices → ⊥) × (after ≡ before) × (new ≡ old)
CountsDevice dev before after old (Err why) new = ⊥

-- Some failed call is written, or none, and the handle is as it was. Which one, and with what
-- errno, no clause says.
abbrev pub SaysFailure : WarmFailure → ℕ → WarmFailure → OpenNode → OpenNode → Type 0
SaysFailure before found failure old new = (failed : Option FailedCall) × (error : ℤ)
    × IsOptionalFailure failed error before found failure × (new ≡ old)
