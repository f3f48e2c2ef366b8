-- What the calls of a shard did to its node, and what they gave it.
use Rattle.std.proofs.Common.{◌≡◌, ℕ, List, [], ◌∷◌, ◌++◌, Option, Some, None, refl, sym, ap, subst, ◌∙◌}
use Rattle.warm_history.specs.ReferenceSets.{ReferenceSet}
use Rattle.warm_history.specs.Histories.{history}
use Rattle.warm_machine.specs.declared.operation.Operation.{Operation}
use Rattle.warm_machine.specs.Runs.{Runs, operation}
use Rattle.warm_pool.specs.declared.fault.PoolFault.TheVariants.{SizeDiffers}
use Rattle.warm_gossip.specs.Clauses.{NodeWriteBackFails, SameView}
use Rattle.warm_gossip.specs.State.{NodeState, NodeView, node_view}
use Rattle.warm_gossip.specs.declared.call.Call.{Call}
use Rattle.warm_gossip.specs.declared.call.Reply.{Reply}
use Rattle.warm_gossip.specs.declared.fault.NodeFault.{NodeFault}
use Rattle.warm_gossip.specs.declared.fault.NodeFault.TheVariants.{Memory, Pool}
use Rattle.warm_gossip.proofs.GivenLemmas.{told_is_history}
use Rattle.warm_visits.proofs.RunLemmas.{runs_on}
use Rattle.warm_shard_machine.specs.declared.calls.ShardCall.{ShardCall}
use Rattle.warm_shard_machine.specs.declared.calls.ShardReply.{ShardReply}
use Rattle.warm_shard_machine.specs.declared.calls.ShardReply.TheVariants.{Changed, Dirty, Done, Entered, Foreign, Looked, Page, Pinned, Portion, Refused, Replaced, WasDirty}
use Rattle.warm_shard_machine.specs.Laws.{CallsAreANodes, ShardIsOfGiven, asked_steps, given_by_reply, given_by_step, given_by_steps, node_steps}
use Rattle.warm_shard_machine.specs.ShardSteps.{Asked, doing, looking, changing, CallGoes, NodeGoes, NodeStep, ShardState, ShardStep, Work, calling, writing_pages, writing_some, writing_page, writing_back, flushing, zeroing, filling, naming_next, forgetting, sending_since, retiring, entering, asked_of, node_reply_of}
use Rattle.warm_shard_machine.proofs.EnteringLemmas.{entered_given}

-- ---- the steps of a shard are a node's

-- a node never answers that a page is of another shard
not_foreign : (x y : NodeState) (w : Work) → NodeStep x w Foreign y → ⊥
not_foreign x y (calling c) step = step
not_foreign x y w step = step

asked_run : (x y : NodeState) (by : ℕ) (a : Asked) (r : ShardReply) → NodeGoes x a r y
    → Runs NodeStep x (asked_steps by a r) y
asked_run x y by (doing w) Foreign step = absurd (not_foreign x y w step)
asked_run x y by (doing w) r step = (y, step, refl)
asked_run x y by (looking p) (Looked slot bytes) step = (step.mid, step.pins, (y, step.unpins, refl))
asked_run x y by (looking p) (Refused why) step = (y, step, refl)
asked_run x y by (looking p) r step = absurd step
asked_run x y by (changing p) (Changed slot before after) step = (step.mid, step.pins, (step.left, step.writes, (y, step.unpins, refl)))
asked_run x y by (changing p) (Refused why) step = (y, step, refl)
asked_run x y by (changing p) r step = absurd step

pub foreign_none : (by : ℕ) (a : Asked) → asked_steps by a Foreign ≡ []
foreign_none by (doing w) = refl
foreign_none by a = refl

shard_run : (o y : ShardState) (by : ℕ) (c : ShardCall) (r : ShardReply) → ShardStep o c r y
    → Runs NodeStep o.node (asked_steps by (asked_of c) r) y.node
shard_run o y by c Foreign step =
    subst (λ (es : List (Operation Work ShardReply)). Runs NodeStep o.node es y.node) (sym (foreign_none by (asked_of c))) (ap (λ (s : ShardState). s.node) (sym step.1))
shard_run o y by c r step = asked_run o.node y.node by (asked_of c) r step.2

pub calls_are_a_nodes : CallsAreANodes
calls_are_a_nodes o z [] runs = ap (λ (s : ShardState). s.node) runs
calls_are_a_nodes o z (e ∷ es) runs =
    runs_on NodeStep o.node runs.0.node z.node (asked_steps e.by (asked_of e.call) e.reply) (node_steps es)
    (shard_run o runs.0 e.by e.call e.reply runs.1) (calls_are_a_nodes runs.0 z es runs.2)

-- ---- what a shard was given

pub given_after : (S : ReferenceSet) (xs ys : List (Operation Work ShardReply))
    → given_by_steps (given_by_steps S xs) ys ≡ given_by_steps S (xs ++ ys)
given_after S [] ys = refl
given_after S (e ∷ xs) ys = given_after (given_by_step S e.call e.reply) xs ys

-- after a call a node has the history of what it was given
call_given : (S : ReferenceSet) (o y : NodeState) (c : Call) (k : Option Reply)
    → o.history ≡ history S → CallGoes o c k y → y.history ≡ history (given_by_reply S c k)
call_given S o y c None stands step = absurd step
call_given S o y c (Some r) stands step =
    told_is_history S (node_view o) (node_view y) (operation 0 c r ∷ []) stands (node_view y, step.0, refl)

-- the history that a caller sees is unchanged
same_history : (o y : NodeState) → SameView o y → y.history ≡ o.history
same_history o y same = ap (λ (n : NodeView). n.history) same

failed_history : (o y : NodeState) (why : NodeFault) → NodeWriteBackFails o why y
    → y.history ≡ o.history
failed_history o y why fails = ap (λ (n : NodeView). n.history) fails.1.0

-- so it is beside the calls, and the errands of visits
abbrev IsBeside : Work → Type 0
IsBeside (calling c) = ⊥
IsBeside (entering count number v) = ⊥
IsBeside w = Unit {0}

beside : (o y : NodeState) (w : Work) (r : ShardReply) → IsBeside w → NodeStep o w r y
    → y.history ≡ o.history
beside o y (calling c) r not step = absurd not
beside o y (entering count number v) r not step = absurd not
beside o y writing_pages Done is step = same_history o y step.0
beside o y writing_pages (Refused why) is step = failed_history o y why step.0
beside o y writing_pages r is step = absurd step
beside o y (writing_some limit) (Dirty left) is step = same_history o y step.0
beside o y (writing_some limit) (Refused why) is step = failed_history o y why step.0
beside o y (writing_some limit) r is step = absurd step
beside o y (writing_page p) (WasDirty was_dirty) is step = step.0.history
beside o y (writing_page p) (Refused why) is step = step.0.history
beside o y (writing_page p) r is step = absurd step
beside o y (flushing dev) Done is step = step.0.history
beside o y (flushing dev) (Refused why) is step = step.0.history
beside o y (flushing dev) r is step = absurd step
beside o y writing_back Done is step = same_history o y step.0
beside o y writing_back (Refused why) is step = failed_history o y why step.0
beside o y writing_back r is step = absurd step
beside o y (zeroing p) (Pinned slot) is step = step.0.history
beside o y (zeroing p) (Refused why) is step = step.0.history
beside o y (zeroing p) r is step = absurd step
beside o y (filling p bytes) (Pinned slot) is step = ap (λ (n : NodeView). n.history) step.1.0
beside o y (filling p bytes) (Refused (Pool SizeDiffers)) is step = ap (λ (n : NodeState). n.history) step.1
beside o y (filling p bytes) (Refused (Pool _)) is step = ap (λ (n : NodeView). n.history) step.1.0
beside o y (filling p bytes) (Refused Memory) is step = ap (λ (n : NodeState). n.history) step
beside o y (filling p bytes) r is step = absurd step
beside o y naming_next (Page next) is step = ap (λ (n : NodeState). n.history) step.1
beside o y naming_next (Refused why) is step = ap (λ (n : NodeState). n.history) step.1
beside o y naming_next r is step = absurd step
beside o y (forgetting dev from) Done is step = step.0.history
beside o y (forgetting dev from) (Refused why) is step = step.0.history
beside o y (forgetting dev from) r is step = absurd step
beside o y (sending_since bucket since after) (Portion message more) is step = ap (λ (n : NodeState). n.history) step.2
beside o y (sending_since bucket since after) (Refused why) is step = ap (λ (n : NodeState). n.history) step.1
beside o y (sending_since bucket since after) r is step = absurd step
beside o y (retiring dev told) (Replaced given) is step = step.4.history
beside o y (retiring dev told) (Refused (Pool _)) is step = step.2.history
beside o y (retiring dev told) (Refused Memory) is step = ap (λ (n : NodeState). n.history) step
beside o y (retiring dev told) r is step = absurd step

-- after one step a node has the history of what it was given
one_given : (S : ReferenceSet) (o y : NodeState) (w : Work) (r : ShardReply)
    → o.history ≡ history S → NodeStep o w r y → y.history ≡ history (given_by_step S w r)
one_given S o y (calling c) r stands step = call_given S o y c (node_reply_of r) stands step
one_given S o y (entering count number v) (Entered w) stands step = entered_given S o y stands v w step.1
one_given S o y (entering count number v) (Refused why) stands step = ap (λ (n : NodeState). n.history) step.1 ∙ stands
one_given S o y (entering count number v) r stands step = absurd step
one_given S o y w r stands step = beside o y w r tt step ∙ stands

-- and so after many
steps_given : (S : ReferenceSet) (o z : NodeState) (es : List (Operation Work ShardReply))
    → o.history ≡ history S → Runs NodeStep o es z
    → z.history ≡ history (given_by_steps S es)
steps_given S o z [] stands runs = ap (λ (n : NodeState). n.history) (sym runs) ∙ stands
steps_given S o z (e ∷ es) stands runs =
    steps_given (given_by_step S e.call e.reply) runs.0 z es (one_given S o runs.0 e.call e.reply stands runs.1) runs.2

pub shard_is_of_given : ShardIsOfGiven
shard_is_of_given S o z es stands runs = steps_given S o.node z.node (node_steps es) stands (calls_are_a_nodes o z es runs)
