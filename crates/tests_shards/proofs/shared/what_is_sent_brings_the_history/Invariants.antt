use Rattle.warm_concurrent.specs.Attached.{AreOf}
use Rattle.tests_shards.proofs.shared.what_is_sent_brings_the_history.Given as goal

-- the passes of both replicas are of their turns
abbrev pub invariant-loop-bucket : goal.invariant-loop-bucket
invariant-loop-bucket g l = record {
  next : (goal.iterator-loop-bucket g).can_next l.bucket-iterator;
  finite : (goal.iterator-loop-bucket g).is_finite l.bucket-iterator;
  these : AreOf l.shared-inside.turns.items l.first.passes;
  those : AreOf l.others l.there.passes;
}
