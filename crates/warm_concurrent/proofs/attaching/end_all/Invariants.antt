use Rattle.std.proofs.Common.{◌≡◌, length, drop}
use Rattle.warm_turn.specs.CallHistories.{Joined}
use Rattle.warm_shards.specs.EachShard.{First}
use Rattle.warm_concurrent.specs.Attached.{AreOf, known_of, no_pass}
use Rattle.warm_shard_machine.specs.ShardSteps.{ShardStep}
use Rattle.warm_concurrent.proofs.attaching.end_all.Given as goal

-- the first of the other passes are ended into these
abbrev pub invariant-loop-shard : goal.invariant-loop-shard
invariant-loop-shard g l = record {
  count : l.count ≡ length l.fn.turns.items;
  of : AreOf l.fn.turns.items l.passes.items;
  others : l.others.items ≡ drop l.shard l.fn.others.items;
  joined : First no_pass (λ i old new. Joined ShardStep old.view (known_of l.fn.others.items i) new.view) l.shard l.fn.passes.items l.passes.items;
}
