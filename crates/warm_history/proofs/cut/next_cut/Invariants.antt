use Rattle.std.proofs.Common.{◌≡◌, length}
use Rattle.warm_history.specs.KeptEntries.{kept_entries}
use Rattle.warm_history.proofs.cut.next_cut.Given as goal

-- of the entries that were stepped over nothing is left
abbrev pub invariant-loop-entry : goal.invariant-loop-entry
invariant-loop-entry l = kept_entries l.horizon l.ahead ≡ kept_entries l.horizon l.initial.ahead

abbrev pub decreases-loop-entry : goal.decreases-loop-entry
decreases-loop-entry l = length l.ahead
