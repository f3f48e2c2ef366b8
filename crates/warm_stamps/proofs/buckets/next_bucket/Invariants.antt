use Rattle.std.proofs.Common.{◌≡◌, ◌-◌}
use Rattle.warm_stamps.specs.declared.TheConstants.{BUCKETS}
use Rattle.warm_stamps.specs.Buckets.{buckets_from}
use Rattle.warm_stamps.proofs.buckets.next_bucket.Given as goal

-- of the numbers that were stepped over none is in the set
abbrev pub invariant-loop-next : goal.invariant-loop-next
invariant-loop-next l = buckets_from l.set l.next ≡ buckets_from l.set l.initial.next

abbrev pub decreases-loop-next : goal.decreases-loop-next
decreases-loop-next l = BUCKETS - l.next
