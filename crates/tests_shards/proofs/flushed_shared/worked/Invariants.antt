use Rattle.warm_concurrent.specs.Attached.{AreOf}
use Rattle.tests_shards.proofs.flushed_shared.worked.Given as goal

-- the passes are of the turns
abbrev pub invariant-loop-reference : goal.invariant-loop-reference
invariant-loop-reference g l = AreOf l.shared l.thread.passes
