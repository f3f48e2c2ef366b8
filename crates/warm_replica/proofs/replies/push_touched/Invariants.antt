use Rattle.std.proofs.Common.{◌≡◌, ◌≤◌, ◌++◌, replicate, vec_capacity}
use Rattle.warm_replica.specs.declared.job.StepReply.TheVariants.{Touched}
use Rattle.warm_replica.proofs.replies.push_touched.Given as goal

-- this many touches more, and capacity for the rest
abbrev pub invariant-loop-touch : goal.invariant-loop-touch
invariant-loop-touch l = record {
  items : l.all.items ≡ l.fn.all.items ++ replicate l._touch Touched;
  capacity : vec_capacity l.fn.all ≤ vec_capacity l.all;
}
