use Rattle.std.proofs.Common.{◌≡◌, ◌++◌}
use Rattle.std.specs.List.{AllByRecursion}
use Rattle.warm_history.specs.Histories.{entries_of}
use Rattle.warm_visits.specs.ShardNumbers.{shard_of}
use Rattle.warm_shards.proofs.shards_of_nodes.knows_only.Given as goal

-- the entries so far are of pages of the shard
abbrev pub invariant-loop-entry : goal.invariant-loop-entry
invariant-loop-entry l = record {
  rest : l.yielded ++ l.entry-iterator ≡ entries_of l.history;
  own : AllByRecursion (λ e. shard_of l.count e.page ≡ l.shard) l.yielded;
}
