use Rattle.std.proofs.Common.{◌≡◌, replicate}
use Rattle.warm_threads.specs.Steps.{nothing_planned}
use Rattle.warm_threads.proofs.plan.plans_for.Given as goal

abbrev pub invariant-loop-worker : goal.invariant-loop-worker
invariant-loop-worker l = l.list.items ≡ replicate l._worker nothing_planned
