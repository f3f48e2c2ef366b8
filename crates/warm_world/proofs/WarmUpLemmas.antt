-- Warm-up steps of a world are those of the replica's node.
use Rattle.std.proofs.Common.{◌≡◌, ℕ, zero, suc, ◌<◌, List, [], ◌∷◌, length, map, get_or, replicate, Option, Some, None, refl, sym, ap, subst, ◌∙◌, inl, inr, arith}
use Rattle.std.specs.List.{AllByRecursion}
use Rattle.std.proofs.Math.ListN.{get_or-map}
use Rattle.std.proofs.lemmas.Bool.{cases_lt}
use Rattle.std.proofs.lemmas.List.{get_or_past, length-map}
use Rattle.warm_stamps.specs.declared.PageId.{PageId}
use Rattle.warm_pool.specs.State.{fresh_pool}
use Rattle.warm_pool.specs.View.{PoolView, view_of}
use Rattle.warm_gossip.specs.declared.call.Call.TheVariants as call
use Rattle.warm_gossip.specs.declared.call.Reply.TheVariants as reply
use Rattle.warm_gossip.specs.State.{NodeState, NodeView, opened_node, node_view}
use Rattle.warm_gossip.specs.Step.{Step}
use Rattle.warm_gossip.specs.WarmUps.{PagesDiffer, WarmSteps}
use Rattle.warm_gossip.proofs.WarmUpLemmas.{pages_differ}
use Rattle.warm_gossip.proofs.WarmUpLemmas as node_warm_ups
use Rattle.warm_world.specs.declared.event.Event.TheVariants.{WarmStep}
use Rattle.warm_world.specs.declared.event.Answer.{Answer}
use Rattle.warm_world.specs.declared.event.Answer.TheVariants.{Done, Pinned, Bytes, Page, Pages, Loaded, Refused}
use Rattle.warm_world.specs.Lists.{index_of_number}
use Rattle.warm_world.specs.States.{ModelState, ReplicaState, no_replica, no_pool, replica_node, pool_of, reach_of, replica}
use Rattle.warm_world.specs.Views.{ReplicaView, WorldView}
use Rattle.warm_world.specs.Effects.{NodeReplies, IsNamed, Next, Run, shape}
use Rattle.warm_world.specs.WorldStands.{ReplicaStands, WorldStands}
use Rattle.warm_world.specs.Rounds.{IsNotRefused}
use Rattle.warm_world.specs.WarmUps.{ArePools, PoolsDiffer, WarmUpLoads}
use Rattle.warm_world.proofs.WorldLemmas.{replica_set_at}

-- ---- one step

-- a step that is not refused
record IsWarmStep (old : ModelState) (i : ℕ) (new : ModelState) : Type 0 where
  named : IsNamed (shape old) (WarmStep i)
  loaded : Option PageId
  asked : NodeReplies old i call.WarmStep (reply.Loaded loaded) new

warm_step : (old : ModelState) (i : ℕ) (answer : Answer) (new : ModelState) → IsNotRefused answer
    → Next old (WarmStep i) answer new → IsWarmStep old i new
warm_step old i (Loaded page) new taken next = record { named = next.0; loaded = page; asked = next.1 }
warm_step old i (Refused fault) new taken next = absurd taken
warm_step old i Done new taken next = absurd next.1.1
warm_step old i (Pinned slot) new taken next = absurd next.1.1
warm_step old i (Bytes bytes) new taken next = absurd next.1.1
warm_step old i (Page page) new taken next = absurd next.1.1
warm_step old i (Pages pages) new taken next = absurd next.1.1
warm_step old i answer new taken next = absurd next.1

-- it is a step of the replica's node
node_steps : (old : ModelState) (i : ℕ) (new : ModelState) (w : IsWarmStep old i new)
    → Step (replica_node old i) call.WarmStep (reply.Loaded w.loaded) (replica_node new i)
node_steps old i new w =
    let pool : PoolView = w.asked.0 in
    let next : ReplicaState = record (replica old (index_of_number i)) { pool = pool } in
    let after : replica new (index_of_number i) ≡ next = ap (λ (m : ModelState). replica m (index_of_number i)) w.asked.2 ∙ replica_set_at old (WarmStep i) next w.named in
    let node : replica_node new i ≡ record (replica_node old i) { pool = pool } = cc in
    subst (Step (replica_node old i) call.WarmStep (reply.Loaded w.loaded)) (sym node) w.asked.1

-- ---- steps one after the other

steps_run : (i n : ℕ) (old new : ModelState) (answers : List Answer)
    → Run old (replicate n (WarmStep i)) answers new → AllByRecursion IsNotRefused answers
    → WarmSteps n (replica_node old i) (replica_node new i)
steps_run i zero old new [] run taken = ap (λ (m : ModelState). replica_node m i) run
steps_run i zero old new (answer ∷ answers) run taken = absurd run
steps_run i (suc n) old new [] run taken = absurd run
steps_run i (suc n) old new (answer ∷ answers) run taken =
    let mid : ModelState = run.0 in
    let one : IsWarmStep old i mid = warm_step old i answer mid taken.0 run.1 in
    (one.loaded, replica_node mid i, node_steps old i mid one, steps_run i n mid new answers run.2 taken.1)

pub warm_up_loads : WarmUpLoads
warm_up_loads i old new differ unfixed steps p warm_page =
    node_warm_ups.warm_up_loads (reach_of old i) (replica_node old i) (replica_node new i) refl (differ i) unfixed
    (steps_run i (length (pool_of old i).frames) old new steps.answers steps.run steps.taken) p warm_page

-- ---- what the invariant of worlds gives

-- a pool without frames
bare_differs : PagesDiffer no_pool
bare_differs i j p first second = absurd (let never : None ≡ Some p = first in cc)

-- what a reader beyond the last node or replica gets
no_node : NodeState
no_node = opened_node 0 (fresh_pool 0 0 [])

abbrev unseen : ReplicaView
unseen = record { node = node_view no_node; buffers = [] }

module _ {A : Type 0} (g : A → NodeState) (f : A → ReplicaView)
    (shown : (x : A) → (f x).node ≡ node_view (g x)) where
  same_nodes : (xs : List A)
      → map (λ (r : ReplicaView). r.node) (map f xs) ≡ map node_view (map g xs)
  same_nodes [] = refl
  same_nodes (x ∷ xs) = let head : (f x).node ≡ node_view (g x) = shown x in let tail : map (λ (r : ReplicaView). r.node) (map f xs) ≡ map node_view (map g xs) = same_nodes xs in cc

  node_shown : (xs : List A) (k : ℕ)
      → (get_or (map f xs) k unseen).node ≡ node_view (get_or (map g xs) k no_node)
  node_shown xs k =
      sym (get_or-map (λ (r : ReplicaView). r.node) (map f xs) k unseen)
      ∙ ap (λ (ns : List NodeView). get_or ns k (node_view no_node)) (same_nodes xs)
      ∙ get_or-map node_view (map g xs) k no_node

  -- no page of its pools is in two frames
  pub pools_differ : (xs : List A) (messages : List (List ℕ)) (m : ModelState) → ArePools (map g xs)
      → (let w : WorldView = record { replicas = map f xs; messages = messages } in WorldStands w m)
      → PoolsDiffer m
  pools_differ xs messages m fit stands i =
      let k : ℕ = index_of_number i in
      elim (cases_lt k (length xs)) [
        | inl there ↦
            let low : k < length (map f xs) = omega (arith, there, length-map xs f) in
            let one : ReplicaStands m.capacity k (get_or (map f xs) k unseen) (replica m k) = stands.replicas.each k unseen no_replica low in
            let pool : view_of (get_or (map g xs) k no_node).pool ≡ pool_of m i = ap (λ (n : NodeView). n.pool) (sym (node_shown xs k) ∙ one.node_is) in
            subst PagesDiffer pool (pages_differ (get_or (map g xs) k no_node).pool (fit k no_node (omega (arith, there, length-map xs g))))
        | inr beyond ↦
            let none : replica m k ≡ no_replica = get_or_past m.replicas k no_replica (omega (arith, beyond, stands.replicas.same_length, length-map xs f)) in
            subst PagesDiffer (ap (λ (r : ReplicaState). r.pool) (sym none)) bare_differs
      ]
