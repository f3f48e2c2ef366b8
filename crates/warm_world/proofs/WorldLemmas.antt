-- One replica of a world changes, or nothing does.
use Rattle.std.proofs.Common.{◌≡◌, ℕ, ◌+◌, ◌<◌, List, Option, Some, length, map, get_or, refl, sym, ◌∙◌, ap, subst, arith}
use Rattle.std.proofs.Math.ListN.{set}
use Rattle.std.proofs.lemmas.List.{get_or-map, get_or-set_same, set-get_or, length-map, map-set}
use Rattle.warm_history.specs.Histories.{history}
use Rattle.warm_gossip.specs.declared.call.Call.{Call}
use Rattle.warm_gossip.specs.declared.call.Reply.{Reply}
use Rattle.warm_gossip.specs.declared.fault.NodeFault.{NodeFault}
use Rattle.warm_gossip.specs.declared.fault.NodeFault.TheVariants.{Memory}
use Rattle.warm_gossip.specs.State.{NodeView}
use Rattle.warm_gossip.specs.Step.{Step}
use Rattle.warm_world.specs.declared.event.Event.{Event}
use Rattle.warm_world.specs.declared.event.Answer.{Answer}
use Rattle.warm_world.specs.declared.event.Answer.TheVariants.{Refused}
use Rattle.warm_world.specs.declared.event.WorldFault.{WorldFault}
use Rattle.warm_world.specs.declared.event.WorldFault.TheVariants.{Node, NoSuchReplica, NoSuchWorker, NoSuchFrame}
use Rattle.warm_world.specs.Lists.{IsNumber, Pairwise, index_of_number}
use Rattle.warm_world.specs.Views.{ReplicaView, WorldView}
use Rattle.warm_world.specs.States.{ModelState, ReplicaState, replica_node, no_replica, replica, set_replica}
use Rattle.warm_world.specs.Effects.{NodeReplies, IsMissing, IsNamed, Next, SomeNodeReplies, Shape, call_of, replica_of, reply_of, shape}
use Rattle.warm_world.specs.Replicas.{SomeReply}
use Rattle.warm_world.specs.WorldStands.{ReplicaStands, Stepped, WorldStands, buffered, view_shape}
use Rattle.warm_world.proofs.PoolCallLemmas.{IsAlone, replies_alone}
use Rattle.warm_world.proofs.NodeCallLemmas.{next_of_reply}
use Rattle.warm_world.proofs.PairLemmas.{Pairwise-set, Pairwise-map}

-- ---- as many replicas, workers and messages

pub same_shape : (w : WorldView) (m : ModelState) → WorldStands w m → view_shape w ≡ shape m
same_shape w m st =
    let workers : map (λ (r : ReplicaView). length r.buffers) w.replicas ≡ map (λ (r : ReplicaState). length r.pending) m.replicas =
    Pairwise-map (ReplicaStands m.capacity) (λ r. length r.buffers) (λ r. length r.pending) w.replicas m.replicas (λ i a b here. ap length here.buffers_are ∙ length-map b.pending (buffered m.capacity)) st.replicas in
    let messages : length w.messages ≡ length m.records = st.messages.same_length in
    cc

pub named_too : (w : WorldView) (m : ModelState) (event : Event) → WorldStands w m
    → IsNamed (view_shape w) event → IsNamed (shape m) event
named_too w m event st named = let P : Shape → Type 0 = λ s. IsNamed s event in subst P (same_shape w m st) named

-- what is named does not exist: the event is refused, and nothing changes
pub missing_too : (w : WorldView) (m : ModelState) (event : Event) (fault : WorldFault)
    → WorldStands w m → IsMissing (view_shape w) event fault → Stepped m event (Refused fault) w
missing_too w m event (Node why) st missing = absurd missing
missing_too w m event NoSuchReplica st missing = let P : Shape → Type 0 = λ s. IsMissing s event NoSuchReplica in record { new = m; next = (subst P (same_shape w m st) missing, refl); stands = st }
missing_too w m event NoSuchWorker st missing = let P : Shape → Type 0 = λ s. IsMissing s event NoSuchWorker in record { new = m; next = (subst P (same_shape w m st) missing, refl); stands = st }
missing_too w m event NoSuchFrame st missing = let P : Shape → Type 0 = λ s. IsMissing s event NoSuchFrame in record { new = m; next = (subst P (same_shape w m st) missing, refl); stands = st }

-- an allocation failed, and nothing changes
pub no_memory_still : (w : WorldView) (m : ModelState) (event : Event) (why : NodeFault)
    → WorldStands w m → why ≡ Memory → Next m event (Refused (Node Memory)) m
    → Stepped m event (Refused (Node why)) w
no_memory_still w m event why st is next = record { new = m; next = subst (λ f. Next m event (Refused (Node f)) m) (sym is) next; stands = st }

-- ---- what the replicas of a world show, with that of one of them changed

-- the replica that an event names is there
pub replica_there : (m : ModelState) (event : Event) → IsNamed (shape m) event
    → index_of_number (replica_of event) < length m.replicas
replica_there m event named = omega (arith, named.replica_there.from_one, named.replica_there.in_range, length-map m.replicas (λ (r : ReplicaState). length r.pending))

-- it is the one that was put there
pub replica_set_at : (m : ModelState) (event : Event) (r : ReplicaState) → IsNamed (shape m) event
    → replica (set_replica m (index_of_number (replica_of event)) r)
    (index_of_number (replica_of event)) ≡ r
replica_set_at m event r named = get_or-set_same m.replicas (index_of_number (replica_of event)) r no_replica (replica_there m event named)

-- what a replica at an index shows
pub shown_at : {A : Type 0} (f : A → ReplicaView) (xs : List A) (k : ℕ) (x : A)
    (other : ReplicaView) → k < length xs → x ≡ get_or xs k x → get_or (map f xs) k other ≡ f x
shown_at f xs k x other lt is = get_or-map f xs k x other lt ∙ ap f (sym is)

module _ {A : Type 0} (f : A → ReplicaView) (xs : List A) (messages : List (List ℕ)) where
  -- the world of these replicas
  abbrev pub world : List A → WorldView
  world ys = record { replicas = map f ys; messages = messages }

  -- if the replica at an index shows what it showed, so does the world
  pub world_stays : (k : ℕ) (x y : A) → k < length xs → x ≡ get_or xs k x → f y ≡ f x
      → world (set xs k y) ≡ world xs
  world_stays k x y lt is same = ap (λ (rs : List ReplicaView). let w : WorldView = record { replicas = rs; messages = messages } in w)
      (map-set f xs k y ∙ ap (set (map f xs) k) (same ∙ sym (shown_at f xs k x (f x) lt is)) ∙ set-get_or (map f xs) k (f x))

  -- the replica that an event names has a place
  pub place_in : (event : Event) → IsNamed (view_shape (world xs)) event
      → index_of_number (replica_of event) < length xs
  place_in event named = omega (arith, named.replica_there.from_one, named.replica_there.in_range, length-map xs f, length-map (map f xs) (λ (r : ReplicaView). length r.buffers))

  -- as many workers as its buffers are
  pub workers_at : (i : ℕ) (x : A)
      → IsNumber i (length (map (λ (r : ReplicaView). length r.buffers) (map f xs)))
      → x ≡ get_or xs (index_of_number i) x
      → length (f x).buffers
      ≡ get_or (map (λ (r : ReplicaView). length r.buffers) (map f xs)) (index_of_number i) 0
  workers_at i x number is =
      let lt : index_of_number i < length xs = omega (arith, number.from_one, number.in_range, length-map xs f, length-map (map f xs) (λ (r : ReplicaView). length r.buffers)) in
      sym (get_or-map (λ (r : ReplicaView). length r.buffers) (map f xs) (index_of_number i) (f x) 0 (subst (λ n. index_of_number i < n) (sym (length-map xs f)) lt)
      ∙ ap (λ (r : ReplicaView). length r.buffers) (shown_at f xs (index_of_number i) x (f x) lt is))

  -- the worker of a number has a buffer
  pub worker_in : (i w : ℕ) (x : A)
      → IsNumber i (length (map (λ (r : ReplicaView). length r.buffers) (map f xs)))
      → x ≡ get_or xs (index_of_number i) x
      → IsNumber w (get_or (map (λ (r : ReplicaView). length r.buffers) (map f xs))
      (index_of_number i) 0) → index_of_number w < length (f x).buffers
  worker_in i w x there is number = omega (arith, number.from_one, number.in_range, workers_at i x there is)

  -- the replica at an index stands for that of the model
  pub stands_at : (m : ModelState) (k : ℕ) (x : A) → WorldStands (world xs) m → k < length xs
      → x ≡ get_or xs k x → ReplicaStands m.capacity k (f x) (replica m k)
  stands_at m k x st lt is =
      subst (λ r. ReplicaStands m.capacity k r (replica m k)) (shown_at f xs k x (f x) lt is) (st.replicas.each k (f x) no_replica (subst (λ n. k < n) (sym (length-map xs f)) lt))

  -- the node of the replica that an event names is that of the model
  pub node_at : (m : ModelState) (event : Event) (x : A) → WorldStands (world xs) m
      → IsNamed (view_shape (world xs)) event → x ≡ get_or xs (index_of_number (replica_of event)) x
      → (f x).node ≡ replica_node m (replica_of event)
  node_at m event x st named is =
      let k = index_of_number (replica_of event) in
      let number : k + 1 ≡ replica_of event = omega (arith, named.replica_there.from_one) in
      (stands_at m k x st (place_in event named) is).node_is ∙ ap (λ (i : ℕ). let v : NodeView = record { id = i; history = history (replica m k).reach; pool = (replica m k).pool } in v) number

  pub replica_changes : (m : ModelState) (k : ℕ) (y : A) (r : ReplicaState)
      → WorldStands (world xs) m
      → k < length xs → ReplicaStands m.capacity k (f y) r
      → WorldStands (world (set xs k y)) (set_replica m k r)
  replica_changes m k y r st lt here = record {
    replicas = subst (λ rs. Pairwise (ReplicaStands m.capacity) rs (set m.replicas k r)) (sym (map-set f xs k y))
        (Pairwise-set (ReplicaStands m.capacity) (map f xs) m.replicas k (f y) r st.replicas (subst (λ n. k < n) (sym (length-map xs f)) lt) here);
    messages = st.messages;
  }

  -- an event that changes one replica: what that stood for, and what it stands for
  pub changes : (m : ModelState) (event : Event) (answer : Answer) (x y : A) (r : ReplicaState)
      → WorldStands (world xs) m → IsNamed (view_shape (world xs)) event
      → x ≡ get_or xs (index_of_number (replica_of event)) x
      → (let k : ℕ = index_of_number (replica_of event)
      in ReplicaStands m.capacity k (f x) (replica m k) → ReplicaStands m.capacity k (f y) r)
      → (IsNamed (shape m) event
      → Next m event answer (set_replica m (index_of_number (replica_of event)) r))
      → Stepped m event answer (world (set xs (index_of_number (replica_of event)) y))
  changes m event answer x y r st named is becomes next =
      let k = index_of_number (replica_of event) in
      let lt = place_in event named in
      record {
        new = set_replica m k r;
        next = next (named_too (world xs) m event st named);
        stands = replica_changes m k y r st lt (becomes (stands_at m k x st lt is));
      }

  -- an event that leaves the replica unchanged
  pub replica_stays : (m : ModelState) (event : Event) (x y : A) → WorldStands (world xs) m
      → IsNamed (view_shape (world xs)) event → x ≡ get_or xs (index_of_number (replica_of event)) x
      → f y ≡ f x → WorldStands (world (set xs (index_of_number (replica_of event)) y)) m
  replica_stays m event x y st named is same = rw (world_stays (index_of_number (replica_of event)) x y (place_in event named) is same) st

  -- an event for which an allocation failed, and that leaves the replica unchanged
  pub no_memory : (m : ModelState) (event : Event) (x y : A) (why : NodeFault)
      → WorldStands (world xs) m → IsNamed (view_shape (world xs)) event
      → x ≡ get_or xs (index_of_number (replica_of event)) x → f y ≡ f x → why ≡ Memory
      → (IsNamed (shape m) event
      → ReplicaStands m.capacity (index_of_number (replica_of event)) (f x)
      (replica m (index_of_number (replica_of event))) → Next m event (Refused (Node Memory)) m)
      → Stepped m event (Refused (Node why)) (world (set xs (index_of_number (replica_of event)) y))
  no_memory m event x y why st named is same fault next =
      let k = index_of_number (replica_of event) in
      no_memory_still (world (set xs k y)) m event why (replica_stays m event x y st named is same) fault
      (next (named_too (world xs) m event st named) (stands_at m k x st (place_in event named) is))

  -- The node gives this reply to the call, and nothing but its pool is changed; the buffers are
  -- unchanged.
  pub asked : (m : ModelState) (event : Event) (call : Call) (reply : Reply) (answer : Answer)
      (x y : A)
      → WorldStands (world xs) m → IsNamed (view_shape (world xs)) event
      → x ≡ get_or xs (index_of_number (replica_of event)) x
      → (f y).buffers ≡ (f x).buffers → IsAlone (f x).node (f y).node
      → Step (f x).node call reply (f y).node
      → ((new : ModelState) → IsNamed (shape m) event
      → NodeReplies m (replica_of event) call reply new → Next m event answer new)
      → Stepped m event answer (world (set xs (index_of_number (replica_of event)) y))
  asked m event call reply answer x y st named is same alone step next =
      let i = replica_of event in
      let n = (f y).node in
      let was = node_at m event x st named is in
      let now : n ≡ record (replica_node m i) { pool = n.pool } = alone ∙ ap (λ (v : NodeView). let u : NodeView = record v { pool = n.pool } in u) was in
      let r : ReplicaState = record (replica m (index_of_number i)) { pool = n.pool } in
      changes m event answer x y r st named is
      (λ here. record {
        has_capacity = here.has_capacity;
        node_is = alone ∙ ap (λ (v : NodeView). let u : NodeView = record v { pool = n.pool } in u) here.node_is;
        buffers_are = same ∙ here.buffers_are;
      })
      (λ there. next (set_replica m (index_of_number i) r) there
      (n.pool, subst (λ v. Step v call reply (record (replica_node m i) { pool = n.pool })) was (subst (Step (f x).node call reply) now step), refl))

  asked_if : (m : ModelState) (event : Event) (call : Option Call) (reply : Option Reply)
      (answer : Answer) (x y : A)
      → WorldStands (world xs) m → IsNamed (view_shape (world xs)) event
      → x ≡ get_or xs (index_of_number (replica_of event)) x
      → (f y).buffers ≡ (f x).buffers → IsAlone (f x).node (f y).node
      → SomeReply (f x).node call reply (f y).node
      → ((new : ModelState) → IsNamed (shape m) event
      → SomeNodeReplies m (replica_of event) call reply new → Next m event answer new)
      → Stepped m event answer (world (set xs (index_of_number (replica_of event)) y))
  asked_if m event (Some call) (Some reply) answer x y st named is same alone step next = asked m event call reply answer x y st named is same alone step next
  asked_if m event call reply answer x y st named is same alone step next = absurd step

  -- The node of the replica that the event names replies to the call that the event makes of it.
  pub asks : (m : ModelState) (event : Event) (i : ℕ) (answer : Answer) (x y : A)
      → i ≡ replica_of event
      → WorldStands (world xs) m → IsNamed (view_shape (world xs)) event
      → x ≡ get_or xs (index_of_number i) x
      → (f y).buffers ≡ (f x).buffers
      → SomeReply (f x).node (call_of event) (reply_of answer) (f y).node
      → Stepped m event answer (world (set xs (index_of_number i) y))
  asks m event i answer x y number st named is same step =
      subst (λ j. x ≡ get_or xs (index_of_number j) x → Stepped m event answer (world (set xs (index_of_number j) y))) (sym number)
      (λ at. asked_if m event (call_of event) (reply_of answer) answer x y st named at same (replies_alone (f x).node (f y).node event answer step) step (next_of_reply m event answer)) is
