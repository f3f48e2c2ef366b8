use Rattle.std.proofs.Common.{◌≡◌, length}
use Rattle.warm_shards.specs.VisitLaws.{GoesAlone}
use Rattle.warm_visits.specs.Visits.{entries_left}
use Rattle.warm_shards.proofs.go_through.go_through.Given as goal

-- the visit has become this one, and the nodes these
abbrev pub invariant-loop-shard : goal.invariant-loop-shard
invariant-loop-shard g l = record {
  gone : GoesAlone l.fn.visit l.fn.nodes.items l.visit l.nodes.items;
  count : length l.nodes.items ≡ l.visit.count;
}

abbrev pub decreases-loop-shard : goal.decreases-loop-shard
decreases-loop-shard g l = entries_left l.visit
