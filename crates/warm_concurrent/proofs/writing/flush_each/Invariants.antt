use Rattle.std.proofs.Common.{◌≡◌, length}
use Rattle.warm_shard_machine.specs.declared.calls.ShardCall.TheVariants.{WriteBack}
use Rattle.warm_concurrent.specs.Attached.{AreOf}
use Rattle.warm_concurrent.specs.Whole.{DoneFirst}
use Rattle.warm_concurrent.proofs.writing.flush_each.Given as goal

-- the first shards have done so
abbrev pub invariant-loop-shard : goal.invariant-loop-shard
invariant-loop-shard g l = record {
  of : AreOf l.turns.items l.passes.items;
  first : DoneFirst WriteBack l.shard l.fn.passes.items l.passes.items;
  count : l.count ≡ length l.turns.items;
}
