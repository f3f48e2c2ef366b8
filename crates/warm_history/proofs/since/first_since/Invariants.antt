use Rattle.std.proofs.Common.{◌≡◌, ◌++◌, ◌≤◌, length}
use Rattle.warm_history.specs.Since.{recent_entries}
use Rattle.warm_history.proofs.since.first_since.Given as goal

-- these entries and the recent ones ahead are all of them
abbrev pub invariant-loop-ahead : goal.invariant-loop-ahead
invariant-loop-ahead l = record {
  goes_on : l.entries.items ++ recent_entries l.since l.ahead ≡ recent_entries l.since l.initial.ahead;
  few : length l.entries.items ≤ l.limit;
}

abbrev pub decreases-loop-ahead : goal.decreases-loop-ahead
decreases-loop-ahead l = length (recent_entries l.since l.ahead)
