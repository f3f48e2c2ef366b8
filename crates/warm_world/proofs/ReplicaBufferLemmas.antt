-- What the buffers of a replica hold.
use Rattle.std.proofs.Common.{◌≡◌, ℕ, ◌+◌, ◌<◌, ◌≤◌, List, [], ◌∷◌, ◌++◌, Result, Ok, Err, inl, inr, true, false, length, get_or, replicate, zero, suc, refl, subst, sym, ◌∙◌, ap, map, arith}
use Rattle.std.proofs.Math.ListN.{set}
use Rattle.std.proofs.lemmas.List.{get_or-map, get_or-set_same, map-set, length-map}
use Rattle.warm_stamps.specs.declared.Reference.{Reference}
use Rattle.std.proofs.lemmas.Bool.{cases_lt}
use Rattle.std.proofs.lemmas.Bool.Decides.{nat_tests}
use Rattle.std.specs.Prelude.{IsOk}
use Rattle.std.specs.Result.{IfErr, IsErrAnd, is_ok}
use Rattle.warm_world.specs.States.{ReplicaState, pending, flushed, opened_over, put_last, raised_replica, referred, restarted}
use Rattle.warm_history.specs.ReferenceSets.{set_of_list, with_horizon, ◌∪◌}
use Rattle.warm_history.specs.Histories.{HistoryView, history, history_of_entries, references_of}
use Rattle.warm_history.proofs.HistoryLemmas.{horizon-history}
use Rattle.warm_history.proofs.JoinLemmas.{history_first}
use Rattle.warm_devices.specs.Device.{DeviceState}
use Rattle.warm_pool.specs.State.{fresh_pool}
use Rattle.warm_pool.specs.View.{PoolView, view_of}
use Rattle.warm_gossip.specs.State.{NodeState, NodeView, node_view}
use Rattle.warm_world.specs.Nodes.{node_over}
use Rattle.warm_world.specs.Sizes.{Sizes}
use Rattle.warm_world.specs.Views.{ReplicaView}
use Rattle.warm_refbuffer.specs.declared.Full.{Full}
use Rattle.warm_refbuffer.specs.Buffered.{Buffered, cleared, with_last}
use Rattle.warm_world.specs.WorldStands.{ReplicaStands, buffered}

pub buffer_at : (capacity : ℕ) (bs : List Buffered) (ps : List (List Reference)) (w : ℕ)
    (d : Buffered) → bs ≡ map (buffered capacity) ps → w < length bs
    → get_or bs w d ≡ buffered capacity (get_or ps w [])
buffer_at capacity bs ps w d is lt =
    let lt_ps : w < length ps = omega (arith, ap length is, length-map ps (buffered capacity)) in
    rw is (get_or-map (buffered capacity) ps w [] d lt_ps)

pub buffer_set : (capacity : ℕ) (bs : List Buffered) (ps : List (List Reference)) (w : ℕ)
    (b : Buffered) (p : List Reference) → bs ≡ map (buffered capacity) ps → b ≡ buffered capacity p
    → set bs w b ≡ map (buffered capacity) (set ps w p)
buffer_set capacity bs ps w b p is here = rw (is, here) (sym (map-set (buffered capacity) ps w p))

-- each buffer is emptied
pub buffers_emptied : (capacity : ℕ) (ps : List (List Reference))
    → map cleared (map (buffered capacity) ps) ≡ map (buffered capacity) (map (λ _. []) ps)
buffers_emptied capacity [] = refl
buffers_emptied capacity (p ∷ ps) = ap (λ bs. buffered capacity [] ∷ bs) (buffers_emptied capacity ps)

pub referred_when_full : (capacity k : ℕ) (x : Reference) (m : ReplicaState)
    → capacity ≤ length (pending m k) → referred capacity k x m ≡ put_last k x (flushed k m)
referred_when_full capacity k x m full = grind (arith, nat_tests)

pub referred_with_capacity : (capacity k : ℕ) (x : Reference) (m : ReplicaState)
    → length (pending m k) < capacity → referred capacity k x m ≡ put_last k x m
referred_with_capacity capacity k x m few = grind (arith, nat_tests)

-- a buffer that took a reference had capacity for it
pub took_one : (b b' : Buffered) (x : Reference) (result : Result Unit Full) (done : Unit)
    → result ≡ Ok done
    → (b.capacity ≤ length b.refs → (result ≡ Err (record { 0 = x })) × (b' ≡ b))
    → length b.refs < b.capacity
took_one b b' x result done is full = elim (cases_lt (length b.refs) b.capacity) [
  | inl few ↦ few
  | inr many ↦ let never : is_ok result ≡ false = ap is_ok (full many).0 in let ok : is_ok result ≡ true = ap is_ok is in absurd (cc)
]

-- and one that gave a reference back was full, and is unchanged
pub gave_back : (b b' : Buffered) (x y : Reference) (result : Result Unit Full)
    → result ≡ Err (record { 0 = y })
    → (length b.refs < b.capacity → IsOk result × (b' ≡ with_last b x))
    → (b.capacity ≤ length b.refs → (result ≡ Err (record { 0 = x })) × (b' ≡ b))
    → (b.capacity ≤ length b.refs) × (b' ≡ b) × (y ≡ x)
gave_back b b' x y result is taken full = elim (cases_lt (length b.refs) b.capacity) [
  | inl few ↦ let ok : is_ok result ≡ true = (taken few).0 in let never : is_ok result ≡ false = ap is_ok is in absurd (cc)
  | inr many ↦
      let given : Result Unit Full → Reference = λ r. elim r [ Ok done ↦ y | Err back ↦ back.0 ] in
      (many, (full many).1, ap given (sym is ∙ (full many).0))
]

-- what holds at a fault holds if a `?` passes the fault on
pub passed_on : {T E : Type 0} (r : Result T E) (e : E) (P : E → Type 0) → IsErrAnd r (λ y. y ≡ e)
    → P e → IfErr r P
passed_on (Ok x) e P is p = tt
passed_on (Err y) e P is p = subst P (sym is) p

-- a reference is put last in a buffer
pub puts : (capacity place k : ℕ) (old new : ReplicaView) (m : ReplicaState) (x : Reference)
    (b : Buffered) → ReplicaStands capacity place old m
    → b ≡ buffered capacity (pending m k ++ x ∷ [])
    → (let r : ReplicaView = record old { buffers = set old.buffers k b } in new ≡ r)
    → ReplicaStands capacity place new (put_last k x m)
puts capacity place k old new m x b st is becomes = record {
  has_capacity = st.has_capacity;
  node_is = ap (λ (r : ReplicaView). r.node) becomes ∙ st.node_is;
  buffers_are = ap (λ (r : ReplicaView). r.buffers) becomes ∙ buffer_set capacity old.buffers m.pending k b (pending m k ++ x ∷ []) st.buffers_are is;
}

-- nothing waits in a buffer that was flushed
pub flushed_is_empty : (capacity k : ℕ) (bs : List Buffered) (m : ReplicaState)
    → bs ≡ map (buffered capacity) m.pending → k < length bs → pending (flushed k m) k ≡ []
flushed_is_empty capacity k bs m is lt =
    let lt_ps : k < length m.pending = omega (arith, ap length is, length-map m.pending (buffered capacity)) in
    get_or-set_same m.pending k [] [] lt_ps

-- empty buffers, one for each worker
pub empty_buffers_are : (capacity n : ℕ)
    → map (buffered capacity) (replicate n []) ≡ replicate n (buffered capacity [])
empty_buffers_are capacity zero = refl
empty_buffers_are capacity (suc n) = ap (λ bs. buffered capacity [] ∷ bs) (empty_buffers_are capacity n)

-- ---- what a replica stands for after it has changed

-- what waits in a buffer reaches the replica
pub flushes : (capacity place k : ℕ) (old new : ReplicaView) (m : ReplicaState)
    (batch : List Reference) → ReplicaStands capacity place old m
    → k < length old.buffers → batch ≡ get_or m.pending k []
    → new.node ≡ record old.node {
      history = history
          (references_of old.node.history ∪ set_of_list batch);
    }
    → new.buffers ≡ set old.buffers k (buffered capacity [])
    → ReplicaStands capacity place new (flushed k m)
flushes capacity place k old new m batch st lt is absorbed emptied = record {
  has_capacity = st.has_capacity;
  node_is = absorbed
      ∙ ap (λ (n : NodeView). let v : NodeView = record n { history = history (references_of n.history ∪ set_of_list batch) } in v) st.node_is
      ∙ ap (λ (h : HistoryView). let v : NodeView = record { id = place + 1; history = h; pool = m.pool } in v) (history_first m.reach (set_of_list batch) ∙ ap (λ b. history (m.reach ∪ set_of_list b)) is);
  buffers_are = emptied ∙ buffer_set capacity old.buffers m.pending k (buffered capacity []) [] st.buffers_are refl;
}

history_of_nothing : history (set_of_list []) ≡ history_of_entries []
unfolding history
history_of_nothing = refl

-- a replica that no reference has reached, with a node that was made so
pub opened_stands : (s : Sizes) (devices : List DeviceState) (place id capacity workers : ℕ)
    (n : NodeState) (bs : List Buffered)
    → 1 ≤ capacity → capacity ≡ s.buffer → workers ≡ s.workers → id ≡ place + 1
    → n ≡ node_over s id devices
    → bs ≡ replicate workers (buffered capacity [])
    → ReplicaStands s.buffer place (record { node = node_view n; buffers = bs })
    (opened_over s devices)
opened_stands s devices place id capacity workers n bs some of_capacity of_workers number node empty = record {
  has_capacity = omega (arith, some, of_capacity);
  node_is = ap node_view node
      ∙ ap (λ (i : ℕ). let v : NodeView = record { id = i; history = history_of_entries []; pool = view_of (fresh_pool s.frames s.page_size devices) } in v) number
      ∙ ap (λ (h : HistoryView). let v : NodeView = record { id = place + 1; history = h; pool = view_of (fresh_pool s.frames s.page_size devices) } in v) (sym history_of_nothing);
  buffers_are = empty ∙ ap (λ k. replicate workers (buffered k [])) of_capacity ∙ ap (λ k. replicate k (buffered s.buffer [])) of_workers ∙ sym (empty_buffers_are s.buffer s.workers);
}

-- a replica whose horizon has risen, or stayed
pub raises : (capacity place time : ℕ) (old new : ReplicaView) (m : ReplicaState)
    → ReplicaStands capacity place old m
    → (let r : ReplicaView = record old {
      node = record old.node {
        history = history
            (with_horizon time (references_of old.node.history));
      };
    } in new ≡ r)
    → ReplicaStands capacity place new (raised_replica time m)
raises capacity place time old new m st becomes = record {
  has_capacity = st.has_capacity;
  node_is = ap (λ (r : ReplicaView). r.node) becomes
      ∙ ap (λ (n : NodeView). let v : NodeView = record n { history = history (with_horizon time (references_of n.history)) } in v) st.node_is
      ∙ ap (λ (h : HistoryView). let v : NodeView = record { id = place + 1; history = h; pool = m.pool } in v) (history_first m.reach (record { horizon = time; given = [] }));
  buffers_are = ap (λ (r : ReplicaView). r.buffers) becomes ∙ st.buffers_are;
}

-- its horizon is that of what reached it
pub horizon_seen : (capacity place : ℕ) (r : ReplicaView) (m : ReplicaState)
    → ReplicaStands capacity place r m → r.node.history.horizon ≡ m.reach.horizon
horizon_seen capacity place r m st = ap (λ (n : NodeView). n.history.horizon) st.node_is ∙ horizon-history m.reach

-- a replica whose node has restarted
pub restarts : (capacity place : ℕ) (old new : ReplicaView) (m : ReplicaState) (pool : PoolView)
    → ReplicaStands capacity place old m
    → (let r : ReplicaView = record {
      node = record old.node {
        history = history_of_entries [];
        pool = pool;
      };
      buffers = map cleared old.buffers;
    } in new ≡ r)
    → ReplicaStands capacity place new (restarted pool m)
restarts capacity place old new m pool st becomes = record {
  has_capacity = st.has_capacity;
  node_is = ap (λ (r : ReplicaView). r.node) becomes
      ∙ ap (λ (n : NodeView). let v : NodeView = record n { history = history_of_entries []; pool = pool } in v) st.node_is
      ∙ ap (λ (h : HistoryView). let v : NodeView = record { id = place + 1; history = h; pool = pool } in v) (sym history_of_nothing);
  buffers_are = ap (λ (r : ReplicaView). r.buffers) becomes ∙ ap (map cleared) st.buffers_are ∙ buffers_emptied capacity m.pending;
}
