use Rattle.warm_concurrent.specs.Attached.{AreOf}
use Rattle.tests_shards.proofs.looking.are_added.Given as goal

-- the passes are of the turns
abbrev pub invariant-loop-no : goal.invariant-loop-no
invariant-loop-no g l = AreOf l.shared l.thread.passes
