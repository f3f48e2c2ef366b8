use Rattle.warm_pool.specs.State.{RankedBy}
use Rattle.test_drivers.proofs.failing.pools.ask_all.Given as goal

-- it stays ranked by the history
abbrev pub invariant-loop-line : goal.invariant-loop-line
invariant-loop-line g l = RankedBy l.pool l.history
