use Rattle.std.proofs.Common.{◌≡◌, ◌≤◌, ℕ, ◌<◌, length, drop, vec_capacity, Result, slice_index_or}
use Rattle.warm_turn.specs.declared.fault.Busy.{Busy}
use Rattle.warm_gossip.specs.State.{NodeState}
use Rattle.warm_concurrent.specs.Attached.{known_of, shard_turn}
use Rattle.warm_concurrent.specs.Opening.{ClosesShard}
use Rattle.warm_concurrent.proofs.attaching.close_all.Given as goal

-- the first turns are closed
abbrev pub invariant-loop-shard : goal.invariant-loop-shard
invariant-loop-shard g l = record {
  count : l.count ≡ length l.fn.turns.items;
  turns : l.turns.items ≡ drop l._shard l.fn.turns.items;
  passes : l.passes.items ≡ drop l._shard l.fn.passes.items;
  number : length l.nodes.items ≡ l._shard;
  capacity : l.count ≤ vec_capacity l.nodes;
  each : (i : ℕ) (d : Result NodeState Busy) → i < l._shard
      → ClosesShard (shard_turn l.fn.turns.items i) (known_of l.fn.passes.items i) (slice_index_or l.nodes.items i d);
}
