-- A call of a node's pool changes nothing but the pool.
use Rattle.std.proofs.Common.{◌≡◌, ℕ, Option, Some, None, ap, refl, sym, ◌∙◌}
use Rattle.warm_gossip.specs.declared.call.Call.{Call}
use Rattle.warm_gossip.specs.declared.call.Call.TheVariants as call
use Rattle.warm_gossip.specs.declared.call.Reply.TheVariants as reply
use Rattle.warm_gossip.specs.declared.fault.NodeFault.{NodeFault}
use Rattle.warm_gossip.specs.declared.fault.NodeFault.TheVariants.{Memory}
use Rattle.warm_pool.specs.View.{PoolView}
use Rattle.warm_stamps.specs.declared.PageId.{PageId}
use Rattle.warm_frames.specs.declared.message.Message.{Message}
use Rattle.warm_gossip.specs.State.{NodeView}
use Rattle.warm_gossip.specs.Step.{Refuses}
use Rattle.warm_gossip.proofs.GivenLemmas.{refused_keeps, same_alone}
use Rattle.warm_world.specs.declared.event.Event.{Event}
use Rattle.warm_world.specs.declared.event.Event.TheVariants.{Pin, Unpin, Put, Get, Victim, Warm, WarmStep}
use Rattle.warm_world.specs.declared.event.Answer.{Answer}
use Rattle.warm_world.specs.declared.event.Answer.TheVariants.{Done, Pinned, Bytes, Page, Pages, Loaded, Refused}
use Rattle.warm_world.specs.declared.event.WorldFault.TheVariants.{Node}
use Rattle.warm_world.specs.Effects.{call_of, reply_of}
use Rattle.warm_world.specs.Replicas.{SomeReply}

-- nothing but the pool is changed
abbrev pub IsAlone : NodeView → NodeView → Type 0
IsAlone old new = new ≡ record old { pool = new.pool }

pool_alone : (old new : NodeView) (pool : PoolView)
    → (let n : NodeView = record old { pool = pool } in new ≡ n) → IsAlone old new
pool_alone old new pool is = is ∙ ap (λ (p : PoolView). let n : NodeView = record old { pool = p } in n) (ap (λ (n : NodeView). n.pool) (sym is))

refused_alone : (old new : NodeView) (asked : Option Call) (why : NodeFault)
    → SomeReply old asked (Some (reply.Refused why)) new → IsAlone old new
refused_alone old new (Some asked) why r = refused_keeps old asked why new r
refused_alone old new None why r = absurd r

-- so does the call that an event makes
pub replies_alone : (old new : NodeView) (event : Event) (answer : Answer)
    → SomeReply old (call_of event) (reply_of answer) new → IsAlone old new
replies_alone old new (Pin i p) (Pinned slot) step = step.0
replies_alone old new (Unpin i slot) Done step = pool_alone old new _ step.1
replies_alone old new (Put i slot at bytes) Done step = step.1.0
replies_alone old new (Get i slot at len) (Bytes bytes) step = same_alone old new step.3
replies_alone old new (Victim i) (Page page) step = same_alone old new step.1
replies_alone old new (Warm i n) (Pages pages) step = same_alone old new step.1
replies_alone old new (WarmStep i) (Loaded None) step = same_alone old new step.1
replies_alone old new (WarmStep i) (Loaded (Some p)) step = step.1.0
replies_alone old new event (Refused (Node why)) step = refused_alone old new (call_of event) why step
replies_alone old new event answer step = absurd step

-- a call of the history is refused only because of an allocation failure
pub send_refused : (old new : NodeView) (bucket : ℕ) (after : Option PageId) (why : NodeFault)
    → Refuses old (call.Send bucket after) why new → why ≡ Memory
send_refused old new bucket after Memory r = refl
send_refused old new bucket after why r = absurd r

-- and changes nothing then
pub offer_refused : (old new : NodeView) (why : NodeFault) → Refuses old call.Offer why new
    → (why ≡ Memory) × (new ≡ old)
offer_refused old new Memory r = (refl, r)
offer_refused old new why r = absurd r

pub receive_refused : (old new : NodeView) (message : Message) (why : NodeFault)
    → Refuses old (call.Receive message) why new → (why ≡ Memory) × (new ≡ old)
receive_refused old new message Memory r = (refl, r)
receive_refused old new message why r = absurd r
