-- What a node was given is its history.
use Rattle.std.proofs.Common.{◌≡◌, sym, ap, ◌∙◌, List, [], ◌∷◌}
use Rattle.warm_history.specs.ReferenceSets.{ReferenceSet}
use Rattle.warm_history.specs.Histories.{history}
use Rattle.warm_machine.specs.declared.operation.Operation.{Operation}
use Rattle.warm_machine.specs.Runs.{Runs}
use Rattle.warm_gossip.specs.declared.call.Call.{Call}
use Rattle.warm_gossip.specs.declared.call.Reply.{Reply}
use Rattle.warm_gossip.specs.declared.fault.NodeFault.{NodeFault}
use Rattle.warm_gossip.specs.State.{NodeView}
use Rattle.warm_gossip.specs.Step.{Refuses, Step}
use Rattle.warm_gossip.specs.Given.{given_by_calls, given_by_call, HistoryIsOfGiven}
use Rattle.warm_gossip.proofs.VictimLemmas.{none_changed, refused, step_leads}

-- nothing but the pool is changed
pub same_alone : (old new : NodeView) → new ≡ old → new ≡ record old { pool = new.pool }
same_alone old new is = (none_changed old new is).0

-- a refused call leaves everything but the pool unchanged
pub refused_keeps : (old : NodeView) (call : Call) (why : NodeFault) (new : NodeView)
    → Refuses old call why new → new ≡ record old { pool = new.pool }
refused_keeps old call why new r = (refused old new call why r).0

goes_on : (S : ReferenceSet) (calls : List (Operation Call Reply)) (old last : NodeView)
    → old.history ≡ history S → Runs Step old calls last
    → last.history ≡ history (given_by_calls S calls)
goes_on S [] old last is runs = ap (λ (n : NodeView). n.history) (sym runs) ∙ is
goes_on S (e ∷ es) old last is runs = goes_on (given_by_call S e.call e.reply) es runs.0 last (step_leads S e.call e.reply old runs.0 is runs.1).0 runs.2

pub told_is_history : HistoryIsOfGiven
told_is_history S opening last calls is runs = goes_on S calls opening last is runs
