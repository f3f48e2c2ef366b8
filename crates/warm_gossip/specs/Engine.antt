-- What an engine asks of a node's pool beside the calls.
use Rattle.std.specs.Prelude.{◌≡◌, Result, IfErr, IfOk}
use Rattle.warm_pool.specs.declared.fault.PoolFault.{PoolFault}
use Rattle.warm_pool.specs.State.{PoolState}
use Rattle.warm_gossip.specs.declared.fault.NodeFault.{NodeFault}
use Rattle.warm_gossip.specs.Clauses.{OfPool}
use Rattle.warm_gossip.specs.State.{NodeState}

-- the node's id and its history are unchanged
pub record KeepsKnown (old new : NodeState) : Type 0 where
  pub id : new.id ≡ old.id
  pub history : new.history ≡ old.history

-- The pool did this, with this result, or refused it and left that.
pub record AsksPool {T : Type 0} (does : PoolState → T → PoolState → Type 0)
    (fails : PoolState → PoolFault → PoolState → Type 0) (old : NodeState)
    (result : Result T NodeFault) (new : NodeState) : Type 0 where
  pub known : KeepsKnown old new
  pub done : IfOk result (λ given. does old.pool given new.pool)
  pub refused : IfErr result (OfPool (λ why. fails old.pool why new.pool))
