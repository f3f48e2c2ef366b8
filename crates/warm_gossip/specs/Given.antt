-- The references that a list of calls gave a node.
use Rattle.std.specs.Prelude.{◌≡◌, List, [], ◌∷◌}
use Rattle.warm_history.specs.ReferenceSets.{ReferenceSet, set_of_list, with_horizon, ◌∪◌}
use Rattle.warm_history.specs.Histories.{history}
use Rattle.warm_peer.specs.Answers.{refs_in}
use Rattle.warm_machine.specs.declared.operation.Operation.{Operation}
use Rattle.warm_machine.specs.Runs.{Runs}
use Rattle.warm_gossip.specs.declared.call.Call.{Call}
use Rattle.warm_gossip.specs.declared.call.Call.TheVariants.{Absorb, Receive, Horizon, Restart}
use Rattle.warm_gossip.specs.declared.call.Reply.{Reply}
use Rattle.warm_gossip.specs.declared.call.Reply.TheVariants.{Done, Answers, Kept}
use Rattle.warm_gossip.specs.State.{NodeView}
use Rattle.warm_gossip.specs.Step.{Step}

-- the references that a node was given, after one call with this reply
abbrev pub given_by_call : ReferenceSet → Call → Reply → ReferenceSet
given_by_call S (Absorb batch) Done = S ∪ set_of_list batch
given_by_call S (Receive message) (Answers messages) = S ∪ refs_in message
given_by_call S (Horizon time) (Kept horizon) = with_horizon time S
given_by_call S Restart Done = set_of_list []
given_by_call S call reply = S

-- the references that a node was given since its last restart, from these on
abbrev pub given_by_calls : ReferenceSet → List (Operation Call Reply) → ReferenceSet
given_by_calls S [] = S
given_by_calls S (e ∷ es) = given_by_calls (given_by_call S e.call e.reply) es

-- each state that a legal list of calls reaches has the history of the references that the node was
-- given
abbrev pub HistoryIsOfGiven : Type 0
HistoryIsOfGiven =
    (S : ReferenceSet) (opening last : NodeView) (calls : List (Operation Call Reply))
    → opening.history ≡ history S → Runs Step opening calls last
    → last.history ≡ history (given_by_calls S calls)
