use Rattle.std.proofs.Common.{◌≡◌, ◌≤◌, ◌++◌, length, vec_capacity}
use Rattle.std.specs.Vec.Iter.{into_iter_items}
use Rattle.warm_concurrent.specs.Opening.{shards_from}
use Rattle.warm_concurrent.proofs.sharing.Sharing.new.Given as goal

-- the shards so far, and there is room for all
abbrev pub invariant-loop-node : goal.invariant-loop-node
invariant-loop-node g l = record {
  same : l.all.items ≡ shards_from l.count 0 l.yielded;
  rest : l.yielded ++ into_iter_items l.node-iterator ≡ l.fn.shards;
  number : length l.all.items ≡ length l.yielded;
  count : l.count ≡ length l.fn.shards;
  capacity : l.count ≤ vec_capacity l.all;
}
