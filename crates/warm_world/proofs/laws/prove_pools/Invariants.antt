use Rattle.std.proofs.Common.{ℕ, ◌<◌, get_or, map}
use Rattle.warm_pool.specs.State.{IsPool}
use Rattle.warm_gossip.specs.State.{NodeState}
use Rattle.warm_world.proofs.laws.prove_pools.Given as goal

-- so are those so far
abbrev pub invariant-loop-replica : goal.invariant-loop-replica
invariant-loop-replica g l = (k : ℕ) (other : NodeState) → k < l.replica-index
    → IsPool (get_or (map (λ r. r.node) l.replicas) k other).pool
