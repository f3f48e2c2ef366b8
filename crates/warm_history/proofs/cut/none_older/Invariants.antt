use Rattle.std.proofs.Common.{◌≡◌, ◌++◌}
use Rattle.warm_history.specs.Histories.{NoneOlder}
use Rattle.warm_history.proofs.cut.none_older.Given as goal

-- of the entries so far no stamp is older
abbrev pub invariant-loop-entry : goal.invariant-loop-entry
invariant-loop-entry l = record {
  split : l.yielded ++ l.entry-iterator ≡ l.fn.entries;
  recent : NoneOlder l.horizon l.yielded;
}
