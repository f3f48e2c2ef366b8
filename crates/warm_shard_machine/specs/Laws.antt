-- The laws of one shard: what its calls did to its node, and what they gave it.
use Rattle.std.specs.Prelude.{ℕ, List, [], ◌∷◌, ◌++◌, Option, Some, None}
use Rattle.warm_stamps.specs.declared.Reference.{Reference}
use Rattle.warm_history.specs.Entry.{Entry}
use Rattle.warm_history.specs.ReferenceSets.{ReferenceSet, set_of_list, ◌∪◌}
use Rattle.warm_history.specs.Histories.{StandsFor}
use Rattle.warm_frames.specs.declared.message.Message.TheVariants.{Digest, Entries}
use Rattle.warm_machine.specs.declared.operation.Operation.{Operation}
use Rattle.warm_machine.specs.Runs.{Runs, operation}
use Rattle.warm_gossip.specs.declared.call.Call.{Call}
use Rattle.warm_gossip.specs.declared.call.Call.TheVariants as node_call
use Rattle.warm_gossip.specs.declared.call.Reply.{Reply}
use Rattle.warm_gossip.specs.declared.call.Reply.TheVariants as node_reply
use Rattle.warm_gossip.specs.declared.fault.NodeFault.TheVariants.{Memory}
use Rattle.warm_gossip.specs.Clauses.{Goes}
use Rattle.warm_gossip.specs.Given.{given_by_call}
use Rattle.warm_gossip.specs.State.{NodeState}
use Rattle.warm_peer.specs.Answers.{refs_in}
use Rattle.warm_visits.specs.Given.{at_horizon}
use Rattle.warm_visits.specs.Visits.{NodeSays, given, giving, offered, offering, refused}
use Rattle.warm_shard_machine.specs.declared.calls.ShardCall.{ShardCall}
use Rattle.warm_shard_machine.specs.declared.calls.ShardReply.{ShardReply}
use Rattle.warm_shard_machine.specs.declared.calls.ShardReply.TheVariants.{Changed, Done, Foreign}
use Rattle.warm_shard_machine.specs.declared.calls.ShardReply.TheVariants.{Entered, Looked, Pinned}
use Rattle.warm_shard_machine.specs.Entering.{gave_entry}
use Rattle.warm_shard_machine.specs.ShardSteps.{Asked, NodeStep, Work, calling, changing, doing}
use Rattle.warm_shard_machine.specs.ShardSteps.{entering}
use Rattle.warm_shard_machine.specs.ShardSteps.{looking, ShardState, ShardStep, asked_of}
use Rattle.warm_shard_machine.specs.ShardSteps.{node_reply_of}

-- calls of a shard, each with its reply, in their order
abbrev pub Log : Type 0
Log = List (Operation ShardCall ShardReply)

-- What the node did for an operation of a shard, step by step: for a look a pin and an unpin, for a
-- change a write between them, and for either a pin if it was refused. For a call that brought a
-- page of another shard it did nothing.
abbrev pub asked_steps : ℕ → Asked → ShardReply → List (Operation Work ShardReply)
asked_steps by asked Foreign = []
asked_steps by (doing work) reply = operation by work reply ∷ []
asked_steps by (looking page) (Looked slot bytes) =
    operation by (calling (node_call.Pin page)) (Pinned slot)
    ∷ operation by (calling (node_call.Unpin slot)) Done ∷ []
asked_steps by (changing page) (Changed slot before after) =
    operation by (calling (node_call.Pin page)) (Pinned slot)
    ∷ operation by (calling (node_call.Write slot 0 after.numbers)) Done
    ∷ operation by (calling (node_call.Unpin slot)) Done ∷ []
asked_steps by (looking page) reply = operation by (calling (node_call.Pin page)) reply ∷ []
asked_steps by (changing page) reply = operation by (calling (node_call.Pin page)) reply ∷ []

-- what the node did for these operations, in their order
abbrev pub node_steps : List (Operation ShardCall ShardReply) → List (Operation Work ShardReply)
node_steps [] = []
node_steps (e ∷ es) = asked_steps e.by (asked_of e.call) e.reply ++ node_steps es

-- A legal list of calls of a shard is one of steps of its node: of calls, and of what it does
-- beside them.
abbrev pub CallsAreANodes : Type 0
CallsAreANodes = (opening last : ShardState) (calls : List (Operation ShardCall ShardReply))
    → Runs ShardStep opening calls last → Runs NodeStep opening.node (node_steps calls) last.node

-- the references that a node was given, from these on, after a call with this reply; a reply that
-- is not a node's gives none
abbrev pub given_by_reply : ReferenceSet → Call → Option Reply → ReferenceSet
given_by_reply S call None = S
given_by_reply S call (Some reply) = given_by_call S call reply

-- the references that a node was given, from these on, after one step with this reply: a call of
-- the node, or an errand of a visit; another step adds none
abbrev pub given_by_step : ReferenceSet → Work → ShardReply → ReferenceSet
given_by_step S (calling call) reply = given_by_reply S call (node_reply_of reply)
given_by_step S (entering count number v) (Entered w) = S ∪ gave_entry v w
given_by_step S work reply = S

-- the references that a node was given by these steps, from these references on
abbrev pub given_by_steps : ReferenceSet → List (Operation Work ShardReply) → ReferenceSet
given_by_steps S [] = S
given_by_steps S (e ∷ es) = given_by_steps (given_by_step S e.call e.reply) es

-- the references that a shard was given by these calls, from these on
abbrev pub given_to_shard : ReferenceSet → List (Operation ShardCall ShardReply) → ReferenceSet
given_to_shard S calls = given_by_steps S (node_steps calls)

-- a shard in a state that a legal list of its calls reaches has the history of the references that
-- it was given
abbrev pub ShardIsOfGiven : Type 0
ShardIsOfGiven = (S : ReferenceSet) (opening last : ShardState)
    (calls : List (Operation ShardCall ShardReply)) → StandsFor opening.node.history S
    → Runs ShardStep opening calls last → StandsFor last.node.history (given_to_shard S calls)

-- Errands of visits

-- What a node says to the errands that give and to an offer is a call of the node, as a caller of the
-- node sees it: so a visit asks no more of a shard than these calls do, and no less.
pub record ErrandsAreCalls (n m : NodeState) : Type 0 where
  pub absorbs : (batch : List Reference) (horizon : ℕ)
      → NodeSays n (giving (set_of_list batch)) (given horizon) m
      → Goes n (node_call.Absorb batch) node_reply.Done m
  pub raises : (time horizon : ℕ) → NodeSays n (giving (at_horizon time)) (given horizon) m
      → Goes n (node_call.Horizon time) (node_reply.Kept horizon) m
  pub receives : (sender time horizon : ℕ) (entries : List Entry)
      → NodeSays n (giving (refs_in (Entries sender time entries))) (given horizon) m
      → Goes n (node_call.Receive (Entries sender time entries)) (node_reply.Answers []) m
  pub offers : (horizon : ℕ) (table : List (List ℕ)) → NodeSays n offering (offered horizon table) m
      → Goes n node_call.Offer (node_reply.Sent (Digest n.id horizon table)) m
  pub refuses : (batch : List Reference) → NodeSays n (giving (set_of_list batch)) refused m
      → Goes n (node_call.Absorb batch) (node_reply.Refused Memory) m
