-- An event that makes a call of its replica's node does what the node replies.
use Rattle.std.proofs.Common.{◌≡◌, ℕ, List, ap, refl, ◌∙◌}
use Rattle.std.proofs.lemmas.List.{set-get_or}
use Rattle.warm_history.specs.Histories.{history}
use Rattle.warm_rank.proofs.EvictionLemmas.{truncation_keeps_order}
use Rattle.warm_gossip.specs.declared.fault.NodeFault.TheVariants as node
use Rattle.warm_gossip.specs.State.{NodeView}
use Rattle.warm_pool.specs.View.{PoolView}
use Rattle.warm_world.specs.declared.event.Event.{Event}
use Rattle.warm_world.specs.declared.event.Event.TheVariants.{Refer, Flush, Send, Offer, Deliver, Warm, Restart, Horizon, Show}
use Rattle.warm_world.specs.declared.event.Answer.{Answer}
use Rattle.warm_world.specs.declared.event.Answer.TheVariants.{Pages, Refused}
use Rattle.warm_world.specs.declared.event.WorldFault.TheVariants.{Node, NoSuchReplica, NoSuchWorker, NoSuchFrame}
use Rattle.warm_world.specs.Lists.{index_of_number}
use Rattle.warm_world.specs.States.{ModelState, ReplicaState, replica_node, no_replica, pool_of, reach_of, set_pool}
use Rattle.warm_world.specs.Effects.{IsNamed, Next, SomeNodeReplies, call_of, replica_of, reply_of, shape}

-- a pool that is put back is no change
pub pool_kept : (m : ModelState) (i : ℕ) → set_pool m i (pool_of m i) ≡ m
pool_kept m i = ap (λ (rs : List ReplicaState). let s : ModelState = record m { replicas = rs } in s) (set-get_or m.replicas (index_of_number i) no_replica)

unchanged : (old new : ModelState) (i : ℕ) (pool : PoolView)
    → (let n : NodeView = record (replica_node old i) { pool = pool } in n ≡ replica_node old i)
    → new ≡ set_pool old i pool → new ≡ old
unchanged old new i pool same is = is ∙ ap (set_pool old i) (ap (λ (n : NodeView). n.pool) same) ∙ pool_kept old i

pub next_of_reply : (old : ModelState) (event : Event) (answer : Answer) (new : ModelState)
    → IsNamed (shape old) event
    → SomeNodeReplies old (replica_of event) (call_of event) (reply_of answer) new
    → Next old event answer new
next_of_reply old (Refer i w page time) answer new named r = absurd r
next_of_reply old (Flush i w) answer new named r = absurd r
next_of_reply old (Send i bucket after) answer new named r = absurd r
next_of_reply old (Offer i) answer new named r = absurd r
next_of_reply old (Deliver j k) answer new named r = absurd r
next_of_reply old (Restart i) answer new named r = absurd r
next_of_reply old (Horizon i time) answer new named r = absurd r
next_of_reply old (Show i) answer new named r = absurd r
next_of_reply old (Warm i n) (Refused (Node node.Memory)) new named r = (named, unchanged old new i r.0 r.1 r.2)
next_of_reply old (Warm i n) (Pages pages) new named r = (named, (r.1.0 ∙ (truncation_keeps_order (history (reach_of old i)) (reach_of old i) refl).hottest_alike n, unchanged old new i r.0 r.1.1 r.2))
next_of_reply old event (Refused NoSuchReplica) new named r = absurd r
next_of_reply old event (Refused NoSuchWorker) new named r = absurd r
next_of_reply old event (Refused NoSuchFrame) new named r = absurd r
next_of_reply old event answer new named r = (named, r)
