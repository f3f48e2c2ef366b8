use Rattle.std.proofs.Common.{◌≡◌, ℕ, List, length}
use Rattle.warm_concurrent.specs.Attached.{AreOf}
use Rattle.warm_concurrent.specs.Raising.{RaisesFirstTo, latest_in}
use Rattle.warm_concurrent.proofs.history_calls.raise_all.Given as goal

-- the horizons that the first shards have, once they are raised, and the latest of these
abbrev pub invariant-loop-shard : goal.invariant-loop-shard
invariant-loop-shard g l = record {
  of : AreOf l.turns.items l.passes.items;
  count : l.count ≡ length l.turns.items;
  so_far : (horizons : List ℕ) × RaisesFirstTo l.time horizons l.shard l.fn.passes.items l.passes.items × (l.latest ≡ latest_in horizons);
}
