use Rattle.warm_pool.specs.State.{RankedBy}
use Rattle.tests_pools.proofs.pool.runs.Given as goal

-- the history ranks it still
abbrev pub invariant-loop-at : goal.invariant-loop-at
invariant-loop-at g l = RankedBy l.pool l.history
