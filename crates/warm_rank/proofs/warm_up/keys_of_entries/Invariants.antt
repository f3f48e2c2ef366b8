use Rattle.std.proofs.Common.{◌≡◌, ◌++◌, map}
use Rattle.warm_rank.specs.Keys.{entry_key}
use Rattle.warm_rank.proofs.warm_up.keys_of_entries.Given as goal

-- the keys so far and those of the entries that are left
abbrev pub invariant-loop-entry : goal.invariant-loop-entry
invariant-loop-entry l = l.keys.items ++ map entry_key l.entry-iterator ≡ map entry_key l.fn.entries
