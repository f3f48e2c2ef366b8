use Rattle.warm_concurrent.specs.Attached.{AreOf}
use Rattle.tests_shards.proofs.gossip_shared.answers.Given as goal

-- the passes are of the turns
abbrev pub invariant-loop-message : goal.invariant-loop-message
invariant-loop-message g l = AreOf l.shared l.attached.passes
