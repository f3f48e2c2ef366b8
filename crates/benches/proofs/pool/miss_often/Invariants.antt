use Rattle.warm_pool.specs.State.{RankedBy}
use Rattle.benches.proofs.pool.miss_often.Given as goal

-- the history ranks it still
abbrev pub invariant-loop-no : goal.invariant-loop-no
invariant-loop-no l = RankedBy l.pool l.history
