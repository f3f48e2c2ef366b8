-- One replica's pages are written back.
use Rattle.std.proofs.Common.{◌≡◌, ◌≢◌, ℕ, ◌+◌, ◌<◌, inl, inr, arith, List, [], length, map, get_or, set, Result, Ok, Err, refl, sym, ◌∙◌, ap, subst}
use Rattle.std.specs.Prelude.{IfErr, OnOk}
use Rattle.std.proofs.lemmas.List.{get_or-set_same, get_or-set_other, length-map, map-set}
use Rattle.std.proofs.lemmas.Bool.{cases_eq}
use Rattle.warm_gossip.specs.declared.fault.NodeFault.{NodeFault}
use Rattle.warm_gossip.specs.declared.fault.NodeFault.TheVariants.{Pool}
use Rattle.warm_gossip.specs.State.{NodeState, NodeView, empty_node}
use Rattle.warm_gossip.specs.Step.{IsFailed, OnPool}
use Rattle.warm_pool.specs.declared.fault.PoolFault.TheVariants.{Fault}
use Rattle.warm_world.specs.Opening.{FailsAtIndex, FailsOf, FinishFails, StopsInOrder, with_pool}
use Rattle.warm_pool.specs.State.{IsSettled}
use Rattle.warm_world.specs.declared.world.World.{World}
use Rattle.warm_world.specs.Views.{AreSameBut, AreSameFrom, AreSettledBefore, IsSettledBefore, ReplicaView, WorldView, world_view}
use Rattle.warm_world.specs.States.{ReplicaState, no_replica, replica, set_replica}
use Rattle.warm_world.specs.WorldStands.{CountsFailure, ReplicaStands, WorldStands}
use Rattle.warm_world.proofs.PairLemmas.{Pairwise-set}
use Rattle.warm_world.proofs.WorldLemmas.{shown_at, world, world_stays}

module _ {A : Type 0} (f : A → ReplicaView) (xs : List A) (messages : List (List ℕ)) (k : ℕ)
    (x y : A) where
  -- if the replica's node shows what it showed, so does the world
  pub same_if : {T E : Type 0} (result : Result T E) → k < length xs → x ≡ get_or xs k x
      → (f y).buffers ≡ (f x).buffers → OnOk result ((f y).node ≡ (f x).node)
      → OnOk result (world f xs messages (set xs k y) ≡ world f xs messages xs)
  same_if (Ok done) lt is alike same = world_stays f xs messages k x y lt is (rw (← same, ← alike) refl)
  same_if (Err why) lt is alike same = tt

  failed : k < length xs → x ≡ get_or xs k x → (f y).buffers ≡ (f x).buffers
      → OnPool IsFailed (f x).node (f y).node
      → FailsAtIndex k (world f xs messages xs) (world f xs messages (set xs k y))
  failed lt is alike did = let fails : FailsOf (world f xs messages xs) (world f xs messages (set xs k y)) = record {
    replica = k;
    there = subst (λ n. k < n) (sym (length-map xs f)) lt;
    pool = (f y).node.pool;
    failed = λ other. subst (λ (r : ReplicaView). IsFailed r.node.pool (f y).node.pool) (sym (shown_at f xs k x other lt is)) did.1;
    becomes = λ other. ap (λ (rs : List ReplicaView). let w : WorldView = record { replicas = rs; messages = messages } in w)
        (map-set f xs k y ∙ ap (set (map f xs) k)
        (ap (λ (n : NodeView). let r : ReplicaView = record { node = n; buffers = (f y).buffers } in r) did.0
        ∙ ap (λ bs. let r : ReplicaView = record { node = record (f x).node { pool = (f y).node.pool }; buffers = bs } in r) alike
        ∙ ap (λ (r : ReplicaView). with_pool r (f y).node.pool) (sym (shown_at f xs k x other lt is))));
  } in (fails, refl)

  -- if writing back has failed, it has failed for this replica
  pub fails_if : {T : Type 0} (result : Result T NodeFault) → k < length xs → x ≡ get_or xs k x
      → (f y).buffers ≡ (f x).buffers
      → IfErr result (λ why. (why ≡ Pool Fault) × OnPool IsFailed (f x).node (f y).node)
      → IfErr result (λ why. (why ≡ Pool Fault)
      × FailsAtIndex k (world f xs messages xs) (world f xs messages (set xs k y)))
  fails_if (Ok done) lt is alike did = tt
  fails_if (Err why) lt is alike did = (did.0, failed lt is alike did.1)

-- the nodes up to this one are settled if those before it were, and it is
module _ {A : Type 0} (g : A → NodeState) (xs : List A) (k : ℕ) (y : A) where
  settled_next : k < length xs → AreSettledBefore k (map g xs) → IsSettled (g y).pool
      → AreSettledBefore (k + 1) (set (map g xs) k (g y))
  settled_next lt before here j other low = elim (cases_eq j k) [
    | inl same ↦ rw same (rw (get_or-set_same (map g xs) k (g y) other (subst (λ n. k < n) (sym (length-map xs g)) lt)) here)
    | inr apart ↦ rw (get_or-set_other (map g xs) k j (g y) other apart) (before j other (omega (arith, low, apart)))
  ]

  pub settled_if : {T E : Type 0} (result : Result T E) → k < length xs
      → AreSettledBefore k (map g xs) → OnOk result (IsSettled (g y).pool)
      → OnOk result (AreSettledBefore (k + 1) (map g (set xs k y)))
  settled_if (Ok done) lt before here = subst (AreSettledBefore (k + 1)) (sym (map-set g xs k y)) (settled_next lt before here)
  settled_if (Err why) lt before here = tt

-- nodes at other places are unchanged
pub others_same : {A : Type 0} (g : A → NodeState) (xs : List A) (k : ℕ) (y : A) (j : ℕ)
    (other : NodeState) → j ≢ k → get_or (map g (set xs k y)) j other ≡ get_or (map g xs) j other
others_same g xs k y j other apart = ap (λ nodes. get_or nodes j other) (map-set g xs k y) ∙ get_or-set_other (map g xs) k j (g y) other apart

-- what fails in a world that shows what it showed fails in that, and the pools were written back in
-- order up to there
pub fails_since : (old mid new : WorldView) (k : ℕ) (why : NodeFault) → mid ≡ old
    → (why ≡ Pool Fault) × FailsAtIndex k mid new → FinishFails old why new
fails_since old mid new k why same did = (did.0, subst (λ w. FailsOf w new) same did.1.0)

pub stops_in_order : {D : Type 0} (old mid new : World D) (k : ℕ) → world_view mid ≡ world_view old
    → IsSettledBefore k mid → AreSameFrom k old mid → AreSameBut k mid new
    → FailsAtIndex k (world_view mid) (world_view new) → StopsInOrder old new
stops_in_order old mid new k same settled later kept did =
    let at : FailsAtIndex k (world_view old) (world_view new) = subst (λ w. FailsAtIndex k w (world_view new)) same did in
    let here : k ≡ at.0.replica = sym at.1 in
    let before : IsSettledBefore k new = λ j other low. subst (λ (n : NodeState). IsSettled n.pool) (sym (kept j other (λ e. absurd (omega (arith, low, e))))) (settled j other low) in
    let after : AreSameFrom (k + 1) old new = λ j other low. kept j other (λ e. absurd (omega (arith, low, e))) ∙ later j other (omega (arith, low)) in
    record { fails = at.0; before = subst (λ n. IsSettledBefore n new) here before; after = subst (λ n. AreSameFrom (n + 1) old new) here after }

-- the world then stands for what it stood for, with that failure
pub fails_stand : (old new : WorldView) → FailsOf old new → CountsFailure old new
fails_stand old new fails m st =
    let k = fails.replica in
    let other : ReplicaView = record { node = empty_node; buffers = [] } in
    let r : ReplicaView = get_or old.replicas k other in
    let was : ReplicaStands m.capacity k r (replica m k) = st.replicas.each k other no_replica fails.there in
    let after : ReplicaState = record (replica m k) { pool = fails.pool } in
    let stands : ReplicaStands m.capacity k (with_pool r fails.pool) after = record {
      has_capacity = was.has_capacity;
      node_is = ap (λ (n : NodeView). let u : NodeView = record n { pool = fails.pool } in u) was.node_is;
      buffers_are = was.buffers_are;
    } in (
      k,
      fails.pool,
      omega (arith, fails.there, st.replicas.same_length),
      subst (λ v. IsFailed v fails.pool) (ap (λ (n : NodeView). n.pool) was.node_is) (fails.failed other),
      subst (λ w. WorldStands w (set_replica m k after)) (sym (fails.becomes other))
          (record { replicas = Pairwise-set (ReplicaStands m.capacity) old.replicas m.replicas k (with_pool r fails.pool) after st.replicas fails.there stands; messages = st.messages }),
    )
