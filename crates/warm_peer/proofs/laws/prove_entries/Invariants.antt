use Rattle.std.proofs.Common.{◌≡◌, ◌++◌}
use Rattle.std.specs.List.{AllByRecursion}
use Rattle.warm_frames.specs.Entries.{IsEntry}
use Rattle.warm_peer.proofs.laws.prove_entries.Given as goal

-- the entries so far are valid
abbrev pub invariant-loop-entry : goal.invariant-loop-entry
invariant-loop-entry l = record {
  split : l.yielded ++ l.entry-iterator ≡ l.fn.entries;
  so_far : AllByRecursion IsEntry l.yielded;
}
