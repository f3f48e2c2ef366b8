-- References that are given to a node.
use Rattle.std.specs.Prelude.{◌≡◌, ℕ, [], IfErr, OnOk, Result}
use Rattle.warm_history.specs.ReferenceSets.{ReferenceSet, ◌∪◌}
use Rattle.warm_history.specs.Histories.{history, references_of}
use Rattle.warm_pool.specs.Unchanged.{KeepsBytes}
use Rattle.warm_gossip.specs.declared.fault.NodeFault.{NodeFault}
use Rattle.warm_gossip.specs.declared.fault.NodeFault.TheVariants.{Memory}
use Rattle.warm_gossip.specs.Clauses.{SameView}
use Rattle.warm_gossip.specs.State.{NodeState, node_view}

-- the set without a reference, at this horizon
abbrev pub at_horizon : ℕ → ReferenceSet
at_horizon time = record { horizon = time; given = [] }

-- The node has taken in the references of S, at the later horizon of both. Nothing else has changed
-- that a caller sees, nor a device, nor the bytes or the dirty flag of a frame.
abbrev pub IsGiven : ReferenceSet → NodeState → NodeState → Type 0
IsGiven S old new = (node_view new
    ≡ record (node_view old) { history = history (references_of old.history ∪ S) })
    × KeepsBytes old.pool new.pool

-- nothing of the node has changed that a caller sees, nor a device, nor the bytes or the dirty flag
-- of a frame
abbrev pub IsSame : NodeState → NodeState → Type 0
IsSame old new = SameView old new × KeepsBytes old.pool new.pool

-- the node to which S was given has taken it in, or had no memory and is as it was
pub record GivesOne (S : ReferenceSet) (old : NodeState) (result : Result Unit NodeFault)
    (new : NodeState) : Type 0 where
  pub given : OnOk result (IsGiven S old new)
  pub refused : IfErr result (λ why. (why ≡ Memory) × IsSame old new)
