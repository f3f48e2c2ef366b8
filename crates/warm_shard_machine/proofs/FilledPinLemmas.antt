-- A pin with bytes that are given, which was refused.
use Rattle.std.proofs.Common.{◌≡◌, ◌≢◌, ℕ, List, length}
use Rattle.warm_stamps.specs.declared.PageId.{PageId}
use Rattle.warm_pool.specs.declared.fault.PoolFault.TheVariants.{SizeDiffers}
use Rattle.warm_pool.specs.Outcomes.{UnreadPinFails}
use Rattle.warm_gossip.specs.declared.call.Call.TheVariants.{Pin}
use Rattle.warm_gossip.specs.declared.call.Reply.TheVariants as node_reply
use Rattle.warm_gossip.specs.declared.fault.NodeFault.{NodeFault}
use Rattle.warm_gossip.specs.declared.fault.NodeFault.TheVariants.{Memory, Pool, StaleSlot}
use Rattle.warm_gossip.specs.Clauses.{Goes, OfPool}
use Rattle.warm_gossip.specs.State.{NodeState}
use Rattle.warm_shard_machine.specs.declared.calls.ShardReply.TheVariants.{Refused}
use Rattle.warm_shard_machine.specs.ShardSteps.{PinFilledStep}

-- a pool never refuses it for its size
pub filled_refused : (n m : NodeState) (p : PageId) (bytes : List ℕ) (why : NodeFault)
    → length bytes ≡ n.pool.page_size → Goes n (Pin p) (node_reply.Refused why) m
    → OfPool (λ fault. UnreadPinFails n.history p n.pool fault m.pool) why
    → PinFilledStep n p bytes (Refused why) m
filled_refused n m p bytes (Pool SizeDiffers) size goes fails = absurd fails.cause.0.2
filled_refused n m p bytes (Pool _) size goes fails = (size, goes, fails)
filled_refused n m p bytes Memory size goes fails = absurd fails
filled_refused n m p bytes StaleSlot size goes fails = absurd fails

-- nor for memory
pub filled_not_memory : (n m : NodeState) (p : PageId) (why : NodeFault)
    → OfPool (λ fault. UnreadPinFails n.history p n.pool fault m.pool) why → why ≢ Memory
filled_not_memory n m p Memory fails = absurd fails
filled_not_memory n m p (Pool why) fails = λ e. let no : Pool why ≡ Memory = e in absurd (cc)
filled_not_memory n m p StaleSlot fails = absurd fails
