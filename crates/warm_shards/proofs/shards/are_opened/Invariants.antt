use Rattle.std.proofs.Common.{ℕ, ◌<◌, slice_index_or}
use Rattle.warm_gossip.specs.State.{NodeState}
use Rattle.warm_shards.specs.Shards.{IsOpened}
use Rattle.warm_shards.proofs.shards.are_opened.Given as goal

-- the nodes so far are so
abbrev pub invariant-loop-node : goal.invariant-loop-node
invariant-loop-node g l = (k : ℕ) (d : NodeState) → k < l.node-index
    → IsOpened l.id (slice_index_or l.nodes k d)
