use Rattle.warm_pool.specs.State.{RankedBy}
use Rattle.benches.proofs.pool.load_apart.Given as goal

-- the history ranks it still
abbrev pub invariant-loop-frame : goal.invariant-loop-frame
invariant-loop-frame l = RankedBy l.pool l.history
