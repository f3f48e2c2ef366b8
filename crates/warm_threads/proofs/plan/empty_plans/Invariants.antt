use Rattle.std.proofs.Common.{◌≡◌, [], length}
use Rattle.std.specs.List.{All}
use Rattle.warm_threads.specs.Plans.{ArePlansOf}
use Rattle.warm_threads.proofs.plan.empty_plans.Given as goal

-- this many lists of plans, each with a plan for each worker, of whom nothing is asked
abbrev pub invariant-loop-replica : goal.invariant-loop-replica
invariant-loop-replica l = record {
  count : length l.plans.items ≡ l._replica;
  workers : All (λ list. length list.items ≡ l.setup.workers) l.plans.items;
  empty : ArePlansOf l.setup [] l.plans.items;
}
