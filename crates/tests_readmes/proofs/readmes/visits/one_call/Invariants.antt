use Rattle.std.proofs.Common.{◌≡◌}
use Rattle.warm_visits.specs.Visits.{entries_left}
use Rattle.tests_readmes.proofs.readmes.visits.one_call.Given as goal

-- the visit is of two shards
abbrev pub invariant-loop-shard : goal.invariant-loop-shard
invariant-loop-shard g l = l.visit.count ≡ 2

abbrev pub decreases-loop-shard : goal.decreases-loop-shard
decreases-loop-shard g l = entries_left l.visit
