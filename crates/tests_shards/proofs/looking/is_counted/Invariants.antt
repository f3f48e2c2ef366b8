use Rattle.warm_concurrent.specs.Attached.{AreOf}
use Rattle.tests_shards.proofs.looking.is_counted.Given as goal

-- the passes are of the turns
abbrev pub invariant-loop : goal.invariant-loop
invariant-loop g l = AreOf l.shared l.thread.passes
