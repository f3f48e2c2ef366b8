use Rattle.std.proofs.Common.{◌≡◌, ◌++◌}
use Rattle.std.specs.Vec.Iter.{into_iter_items}
use Rattle.warm_threads.specs.Plans.{DoPlans}
use Rattle.warm_threads.proofs.plan.jobs_of_all.Given as goal

-- a list of jobs for each list of plans so far
abbrev pub invariant-loop-list : goal.invariant-loop-list
invariant-loop-list l = record {
  rest : l.yielded ++ into_iter_items l.list-iterator ≡ l.fn.plans.items;
  pairs : DoPlans l.setup.buffer l.yielded l.all.items;
}
