use Rattle.warm_concurrent.specs.Attached.{AreOf}
use Rattle.tests_shards.proofs.shared.a_bucket_is_sent_as_a_node_sends_it.Given as goal

-- the passes are of the turns
abbrev pub invariant-loop-bucket : goal.invariant-loop-bucket
invariant-loop-bucket g l = record {
  next : (goal.iterator-loop-bucket g).can_next l.bucket-iterator;
  finite : (goal.iterator-loop-bucket g).is_finite l.bucket-iterator;
  these : AreOf l.shared-inside.turns.items l.first.passes;
}
