use Rattle.std.proofs.Common.{◌≡◌, ℕ, ◌<◌, ◌≤◌, ◌++◌, ◌∷◌, List, [], length, set, refl, sym, ap, subst, ◌∙◌, arith}
use Rattle.std.proofs.lemmas.List.{length-set, set-get_or}
use Rattle.warm_stamps.specs.declared.PageId.{PageId}
use Rattle.warm_stamps.specs.declared.Reference.{Reference}
use Rattle.warm_refbuffer.specs.Buffered.{Buffered, cleared, with_last}
use Rattle.warm_world.specs.Views.{ReplicaView, replica_view}
use Rattle.warm_world.specs.States.{pending, flushed}
use Rattle.warm_world.specs.Effects.{stamped}
use Rattle.warm_world.specs.WorldStands.{ReplicaStands, buffered}
use Rattle.warm_world.proofs.ReplicaBufferLemmas.{buffer_at, flushed_is_empty, gave_back, passed_on, puts, referred_when_full, referred_with_capacity, took_one}
use Rattle.warm_world.proofs.replica.WorldReplica.refer.Goals as goal

-- the reference that is touched
touched_is : (id id' : ℕ) (page : PageId) (time : ℕ) (made : Reference) → id ≡ id'
    → made ≡ stamped id' page time → stamped id page time ≡ made
touched_is id id' page time made same is = ap (λ n. stamped n page time) same ∙ sym is

pub returns-in_default-clause-ok : goal.returns-in_default-clause-ok
returns-in_default-clause-ok g c = λ capacity made is place m st.
    let k = c.args.worker in
    let x = stamped c.id.result c.args.page c.args.time in
    let b = c.index_mut.result.now in
    let was : b ≡ buffered capacity (pending m k) = c.index_mut.ensures.value ∙ buffer_at capacity c.args.self.now.buffers.items m.pending k b st.buffers_are c.requires.there in
    let few : length b.refs < b.capacity = took_one b c.touch.new.self x c.touch.result _ c.in_default.is c.touch.ensures.full in
    let less : length (pending m k) < capacity = subst (λ (d : Buffered). length d.refs < d.capacity) was few in
    let put : c.touch.new.self ≡ buffered capacity (pending m k ++ made ∷ []) =
    (c.touch.ensures.taken few).1 ∙ ap (λ (d : Buffered). with_last d x) was
    ∙ ap (λ (y : Reference). buffered capacity (pending m k ++ y ∷ [])) (touched_is c.id.result _ c.args.page c.args.time made c.id.ensures is) in
    rw (referred_with_capacity capacity k made m less) (puts capacity place k (replica_view c.args.self.now) _ m made c.touch.new.self st put refl)

pub returns-in_err-flush-clause-err : goal.returns-in_err-flush-clause-err
returns-in_err-flush-clause-err g c =
    let k = c.args.worker in
    let bs = c.args.self.now.buffers.items in
    let b = c.index_mut.result.now in
    let back = gave_back b c.touch.new.self _ c.in-Err.full.0 c.touch.result c.in-Err.is c.touch.ensures.taken c.touch.ensures.full in
    let same : set bs k c.touch.new.self ≡ bs = ap (set bs k) (back.1 ∙ c.index_mut.ensures.value) ∙ set-get_or bs k b in
    passed_on c.from_residual.result c.in_err-flush.field-0.0 _ c.from_residual.ensures.1
    (c.in_err-flush.ensures.err.0, c.in_err-flush.ensures.err.1 ∙ ap (λ (cs : List Buffered). let r : ReplicaView = record (replica_view c.args.self.now) { buffers = cs } in r) same)

pub returns-in_err-flush-clause-full : goal.returns-in_err-flush-clause-full
returns-in_err-flush-clause-full g c = passed_on c.from_residual.result c.in_err-flush.field-0.0 _ c.from_residual.ensures.1 (λ capacity place m st.
    let b = c.index_mut.result.now in
    let was : b ≡ buffered capacity (pending m c.args.worker) = c.index_mut.ensures.value ∙ buffer_at capacity c.args.self.now.buffers.items m.pending c.args.worker b st.buffers_are c.requires.there in
    subst (λ (d : Buffered). d.capacity ≤ length d.refs) was (gave_back b c.touch.new.self _ c.in-Err.full.0 c.touch.result c.in-Err.is c.touch.ensures.taken c.touch.ensures.full).0)

pub returns-clause-ok : goal.returns-clause-ok
returns-clause-ok g c = λ capacity made is place m st.
    let k = c.args.worker in
    let bs = c.args.self.now.buffers.items in
    let x = stamped c.id.result c.args.page c.args.time in
    let b = c.index_mut.result.now in
    let was : b ≡ buffered capacity (pending m k) = c.index_mut.ensures.value ∙ buffer_at capacity bs m.pending k b st.buffers_are c.requires.there in
    let back = gave_back b c.touch.new.self x c.in-Err.full.0 c.touch.result c.in-Err.is c.touch.ensures.taken c.touch.ensures.full in
    let full = subst (λ (d : Buffered). d.capacity ≤ length d.refs) was back.0 in
    let same : set bs k c.touch.new.self ≡ bs = ap (set bs k) (back.1 ∙ c.index_mut.ensures.value) ∙ set-get_or bs k b in
    let old : ReplicaStands capacity place (record (replica_view c.args.self.now) { buffers = set bs k c.touch.new.self }) m =
    record { has_capacity = st.has_capacity; node_is = st.node_is; buffers_are = same ∙ st.buffers_are } in
    let mid = c.in_ok-flush.ensures.ok capacity place m old in
    let there : k < length c.flush.new.self.buffers.items = omega (arith, c.requires.there, c.in_ok-flush.ensures.same, length-set bs k c.touch.new.self) in
    let d = c.index_mut-2.result.now in
    let now : d ≡ buffered capacity (pending (flushed k m) k) = c.index_mut-2.ensures.value ∙ buffer_at capacity c.flush.new.self.buffers.items (flushed k m).pending k d mid.buffers_are there in
    let started : c.start_with.new.self ≡ buffered capacity (pending (flushed k m) k ++ made ∷ []) =
    c.start_with.ensures ∙ ap (λ (e : Buffered). with_last (cleared e) c.in-Err.full.0) now
    ∙ ap (λ (r : Reference). buffered capacity (r ∷ [])) (back.2 ∙ touched_is c.id.result _ c.args.page c.args.time made c.id.ensures is)
    ∙ ap (λ (rs : List Reference). buffered capacity (rs ++ made ∷ [])) (sym (flushed_is_empty capacity k bs m st.buffers_are c.requires.there)) in
    rw (referred_when_full capacity k made m full) (puts capacity place k (replica_view c.flush.new.self) _ (flushed k m) made c.start_with.new.self mid started refl)
