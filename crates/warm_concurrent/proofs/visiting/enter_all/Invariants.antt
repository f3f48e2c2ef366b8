use Rattle.std.proofs.Common.{length}
use Rattle.warm_visits.specs.Visits.{entries_left}
use Rattle.warm_concurrent.specs.Attached.{AreOf}
use Rattle.warm_concurrent.specs.Visiting.{GoesByTurns, IsVisitOf}
use Rattle.warm_concurrent.proofs.visiting.enter_all.Given as goal

-- the visit has gone from shard to shard, and none has refused an errand
abbrev pub invariant-loop-shard : goal.invariant-loop-shard
invariant-loop-shard g l = record {
  of : AreOf l.turns.items l.passes.items;
  goes : GoesByTurns l.fn.visit l.fn.passes.items l.visit l.passes.items;
  visit : IsVisitOf (length l.turns.items) l.visit;
}

abbrev pub decreases-loop-shard : goal.decreases-loop-shard
decreases-loop-shard g l = entries_left l.visit
