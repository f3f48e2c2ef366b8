use Rattle.warm_pool.specs.State.{RankedBy}
use Rattle.benches.proofs.pool.visit_often.Given as goal

-- the history ranks it still
abbrev pub invariant-loop : goal.invariant-loop
invariant-loop l = RankedBy l.pool l.history
