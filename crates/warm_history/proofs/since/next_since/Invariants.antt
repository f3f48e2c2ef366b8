use Rattle.std.proofs.Common.{◌≡◌, length}
use Rattle.warm_history.specs.Since.{recent_entries}
use Rattle.warm_history.proofs.since.next_since.Given as goal

-- the entries that were stepped over are not recent
abbrev pub invariant-loop-entry : goal.invariant-loop-entry
invariant-loop-entry l = recent_entries l.since l.ahead ≡ recent_entries l.since l.initial.ahead

abbrev pub decreases-loop-entry : goal.decreases-loop-entry
decreases-loop-entry l = length l.ahead
