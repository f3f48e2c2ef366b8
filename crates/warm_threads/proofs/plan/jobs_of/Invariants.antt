use Rattle.std.proofs.Common.{◌≡◌, ◌++◌}
use Rattle.std.specs.Vec.Iter.{into_iter_items}
use Rattle.warm_replica.specs.Pairs.{Pairs}
use Rattle.warm_threads.specs.Plans.{DoesPlan}
use Rattle.warm_threads.proofs.plan.jobs_of.Given as goal

-- a job for each plan so far
abbrev pub invariant-loop-plan : goal.invariant-loop-plan
invariant-loop-plan l = record {
  rest : l.yielded ++ into_iter_items l.plan-iterator ≡ l.fn.plans.items;
  pairs : Pairs (DoesPlan l.capacity) l.yielded l.jobs.items;
}
