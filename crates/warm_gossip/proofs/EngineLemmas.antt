-- What follows from what an engine asked of a node's pool.
use Rattle.std.proofs.Common.{◌≡◌, ◌∙◌, ℕ, Result, Ok, Err, refl, ap}
use Rattle.warm_pool.specs.declared.fault.PoolFault.{PoolFault}
use Rattle.warm_pool.specs.Outcomes.{WriteSomeFails}
use Rattle.warm_pool.specs.State.{PoolState}
use Rattle.warm_pool.specs.View.{view_of}
use Rattle.warm_pool.specs.WritingSome.{SomeFails}
use Rattle.warm_gossip.specs.declared.fault.NodeFault.{NodeFault}
use Rattle.warm_gossip.specs.declared.fault.NodeFault.TheVariants.{Memory, Pool, StaleSlot}
use Rattle.warm_gossip.specs.Clauses.{NodeWriteBackFails, OfPool, SameView}
use Rattle.warm_gossip.specs.Engine.{AsksPool, KeepsKnown}
use Rattle.warm_gossip.specs.State.{NodeState, node_view}

-- a caller sees only the pool change
pub known_pool : (n m : NodeState) → KeepsKnown n m
    → node_view m ≡ record (node_view n) { pool = view_of m.pool }
known_pool n m known = λ i. record { id = known.id i; history = known.history i; pool = view_of m.pool }

-- a caller sees no change
pub same_view : (n m : NodeState) → KeepsKnown n m → view_of m.pool ≡ view_of n.pool → SameView n m
same_view n m known same = λ i. record { id = known.id i; history = known.history i; pool = same i }

-- what each fault of the pool gives, its refusal gives
pub of_pool : {A : Type 0} (P : PoolFault → Type 0) (why : NodeFault) → OfPool P why
    → ((fault : PoolFault) → why ≡ Pool fault → P fault → A) → A
of_pool P (Pool fault) refused gives = gives fault refl refused
of_pool P Memory refused gives = absurd refused
of_pool P StaleSlot refused gives = absurd refused

-- also a fact of the fault
pub of_pool_each : (P Q : PoolFault → Type 0) (why : NodeFault) → OfPool P why
    → ((fault : PoolFault) → P fault → Q fault) → OfPool Q why
of_pool_each P Q (Pool fault) refused gives = gives fault refused
of_pool_each P Q Memory refused gives = absurd refused
of_pool_each P Q StaleSlot refused gives = absurd refused

-- what both outcomes give holds after the call
pub either_asked : {T A : Type 0} (does : PoolState → T → PoolState → Type 0)
    (fails : PoolState → PoolFault → PoolState → Type 0) (n : NodeState) (r : Result T NodeFault)
    (m : NodeState) → AsksPool does fails n r m → ((x : T) → does n.pool x m.pool → A)
    → ((why : PoolFault) → fails n.pool why m.pool → A) → A
either_asked does fails n (Ok x) m asked if_done if_refused = if_done x asked.done
either_asked does fails n (Err why) m asked if_done if_refused =
    of_pool (λ fault. fails n.pool fault m.pool) why asked.refused (λ fault is. if_refused fault)

-- a refused portion is a write-back that failed
pub some_fails : (limit : ℕ) (n m : NodeState) (why : NodeFault) → KeepsKnown n m
    → OfPool (λ fault. WriteSomeFails limit n.pool fault m.pool) why
    → NodeWriteBackFails n why m × SomeFails limit n.pool m.pool
some_fails limit n m why known refused =
    of_pool (λ fault. WriteSomeFails limit n.pool fault m.pool) why refused (λ fault is fails.
    let stops = fails.cause.1 in
    ((is ∙ ap Pool fails.cause.0, (known_pool n m known, (stops.page.dev, stops.fails))), stops))
