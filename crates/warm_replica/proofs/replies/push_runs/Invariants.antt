use Rattle.std.proofs.Common.{◌≡◌, ◌≤◌, ◌++◌, length, vec_capacity}
use Rattle.std.specs.Vec.Iter.{into_iter_items}
use Rattle.warm_replica.specs.Replied.{ended, replies_of}
use Rattle.warm_replica.proofs.replies.push_runs.Given as goal

-- the replies of the runs so far, and capacity for all
abbrev pub invariant-loop-run : goal.invariant-loop-run
invariant-loop-run l = record {
  items : l.all.items ≡ ended l.yielded;
  rest : l.yielded ++ into_iter_items l.run-iterator ≡ l.fn.runs.items;
  capacity : length (replies_of l.fn.runs.items l.touched) ≤ vec_capacity l.all;
}
