-- What the steps of a shard keep, and what they are of a call of its node.
use Rattle.std.proofs.Common.{◌≡◌, ℕ, List, [], ◌∷◌, Option, Some, None, refl, sym, ap, ◌∙◌}
use Rattle.warm_pool.specs.declared.fault.PoolFault.TheVariants.{Fixed, NoDevice}
use Rattle.warm_pool.specs.Forgetting.{ForgetRefused}
use Rattle.warm_pool.specs.State.{PoolState}
use Rattle.warm_machine.specs.declared.operation.Operation.{Operation}
use Rattle.warm_machine.specs.Runs.{Runs}
use Rattle.warm_gossip.specs.declared.call.Call.{Call}
use Rattle.warm_gossip.specs.declared.call.Reply.{Reply}
use Rattle.warm_gossip.specs.declared.fault.NodeFault.{NodeFault}
use Rattle.warm_gossip.specs.declared.fault.NodeFault.TheVariants.{Memory, Pool, StaleSlot}
use Rattle.warm_gossip.specs.Clauses.{Goes, OfPool}
use Rattle.warm_gossip.specs.State.{NodeState}
use Rattle.warm_shard_machine.specs.declared.calls.ShardCall.{ShardCall}
use Rattle.warm_shard_machine.specs.declared.calls.ShardReply.{ShardReply}
use Rattle.warm_shard_machine.specs.declared.calls.ShardReply.TheVariants.{Foreign}
use Rattle.warm_shard_machine.specs.ShardSteps.{Asked, CallGoes, IsOwn, NodeGoes, ShardStep, ShardState, asked_of, calling, doing}

-- the shard is the same one
abbrev pub SameShard : ShardState → ShardState → Type 0
SameShard x y = (y.count ≡ x.count) × (y.number ≡ x.number)

only_node : (x y : ShardState) → y ≡ record x { node = y.node } → SameShard x y
only_node x y is = (ap (λ (s : ShardState). s.count) is, ap (λ (s : ShardState). s.number) is)

pub step_keeps : (x y : ShardState) (c : ShardCall) (r : ShardReply) → ShardStep x c r y
    → SameShard x y
step_keeps x y c Foreign step = (ap (λ (s : ShardState). s.count) step.1, ap (λ (s : ShardState). s.number) step.1)
step_keeps x y c r step = only_node x y step.1

pub runs_keep : (x z : ShardState) (es : List (Operation ShardCall ShardReply)) → Runs ShardStep x es z
    → SameShard x z
runs_keep x z [] runs = (ap (λ (s : ShardState). s.count) (sym runs), ap (λ (s : ShardState). s.number) (sym runs))
runs_keep x z (e ∷ es) runs =
    let one = step_keeps x runs.0 e.call e.reply runs.1 in
    let rest = runs_keep runs.0 z es runs.2 in
    (rest.0 ∙ one.0, rest.1 ∙ one.1)

-- a call of own pages is answered as a node answers it
pub own_step : (x y : ShardState) (c : ShardCall) (r : ShardReply) → IsOwn x.count x.number c
    → ShardStep x c r y → NodeGoes x.node (asked_of c) r y.node
own_step x y c Foreign own step = absurd (step.0 own)
own_step x y c r own step = step.2

-- a node never answers that a page is of another shard
never_foreign : (x y : NodeState) (a : Asked) → NodeGoes x a Foreign y → ⊥
never_foreign x y (doing (calling c)) goes = goes
never_foreign x y (doing w) goes = goes
never_foreign x y a goes = goes

-- so what it answers to a call of own pages is a step of the shard
pub made_step : (x : ShardState) (y : NodeState) (c : ShardCall) (r : ShardReply)
    → IsOwn x.count x.number c → NodeGoes x.node (asked_of c) r y
    → ShardStep x c r (record x { node = y })
made_step x y c Foreign own goes = absurd (never_foreign x.node y (asked_of c) goes)
made_step x y c r own goes = (own, refl, goes)

-- what a caller of the node sees of a call, by its reply, if this is one of a node
abbrev pub GoesAs : NodeState → Call → Option Reply → NodeState → Type 0
GoesAs n call None m = ⊥
GoesAs n call (Some reply) m = Goes n call reply m

pub goes_as : (n m : NodeState) (call : Call) (k : Option Reply) → CallGoes n call k m
    → GoesAs n call k m
goes_as n m call None step = step
goes_as n m call (Some reply) step = step.0

-- nothing was forgotten
pub unforgotten : (s t : PoolState) (dev from : ℕ) (why : NodeFault)
    → OfPool (λ fault. ForgetRefused s dev from fault t) why → t ≡ s
unforgotten s t dev from (Pool NoDevice) refused = refused.1
unforgotten s t dev from (Pool Fixed) refused = refused.2
unforgotten s t dev from (Pool _) refused = absurd refused
unforgotten s t dev from Memory refused = absurd refused
unforgotten s t dev from StaleSlot refused = absurd refused
