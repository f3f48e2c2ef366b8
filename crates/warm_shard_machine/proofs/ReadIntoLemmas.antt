-- Why no bytes were read into a vector, which is as it was.
use Rattle.std.proofs.Common.{◌≡◌, ◌≢◌, ℕ, List, length}
use Rattle.warm_pool.specs.declared.slot.Slot.{Slot}
use Rattle.warm_gossip.specs.Clauses.{Goes, ReadIntoFails}
use Rattle.warm_gossip.specs.State.{NodeState}
use Rattle.warm_gossip.specs.declared.call.Call.TheVariants.{Read}
use Rattle.warm_gossip.specs.declared.call.Reply.TheVariants.{Refused}
use Rattle.warm_gossip.specs.declared.fault.NodeFault.{NodeFault}
use Rattle.warm_gossip.specs.declared.fault.NodeFault.TheVariants.{Memory, Pool, StaleSlot}

pub read_refused : (s : NodeState) (slot : Slot) (at : ℕ) (old new : List ℕ) (why : NodeFault)
    → ReadIntoFails s slot at old why new → Goes s (Read slot at (length old)) (Refused why) s
read_refused s slot at old new Memory fails = absurd fails
read_refused s slot at old new (Pool _) fails = fails.0
read_refused s slot at old new StaleSlot fails = fails.0

pub read_same : (s : NodeState) (slot : Slot) (at : ℕ) (old new : List ℕ) (why : NodeFault)
    → ReadIntoFails s slot at old why new → new ≡ old
read_same s slot at old new Memory fails = absurd fails
read_same s slot at old new (Pool _) fails = fails.1
read_same s slot at old new StaleSlot fails = fails.1

pub not_memory : (s : NodeState) (slot : Slot) (at : ℕ) (old new : List ℕ) (why : NodeFault)
    → ReadIntoFails s slot at old why new → why ≢ Memory
not_memory s slot at old new Memory fails = absurd fails
not_memory s slot at old new (Pool why) fails = λ e. let no : Pool why ≡ Memory = e in absurd (cc)
not_memory s slot at old new StaleSlot fails = λ e. let no : StaleSlot ≡ Memory = e in absurd (cc)
