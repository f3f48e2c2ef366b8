use Rattle.warm_concurrent.specs.Attached.{AreOf}
use Rattle.tests_shards.proofs.filled_shared.are_filled.Given as goal

-- the passes are of the turns
abbrev pub invariant-loop-round : goal.invariant-loop-round
invariant-loop-round g l = AreOf l.shared l.thread.passes
