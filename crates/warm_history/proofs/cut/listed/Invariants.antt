use Rattle.std.proofs.Common.{◌≡◌, ◌++◌}
use Rattle.warm_history.proofs.cut.listed.Given as goal

-- the list so far and the entries that are left
abbrev pub invariant-loop-entry : goal.invariant-loop-entry
invariant-loop-entry l = l.list.items ++ l.entry-iterator ≡ l.fn.entries
