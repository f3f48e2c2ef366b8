use Rattle.std.proofs.Common.{◌≡◌, get_or, [], ◌∙◌, ap, refl}
use Rattle.warm_refbuffer.specs.Buffered.{Buffered}
use Rattle.warm_world.specs.WorldStands.{buffered}
use Rattle.warm_world.proofs.ReplicaBufferLemmas.{buffer_at, flushes}
use Rattle.warm_world.proofs.replica.WorldReplica.flush.Goals as goal

pub returns-clause-ok : goal.returns-clause-ok
returns-clause-ok g c = λ capacity place m st.
    let bs = c.args.self.now.buffers.items in
    let read = buffer_at capacity bs m.pending c.args.worker c.index.result.now st.buffers_are c.requires.there in
    let batch : c.refs.result.now ≡ get_or m.pending c.args.worker [] =
    c.refs.ensures ∙ ap (λ (b : Buffered). b.refs) (c.index.ensures ∙ read) in
    let written = buffer_at capacity bs m.pending c.args.worker c.index_mut.result.now st.buffers_are c.requires.there in
    let held : c.index_mut.result.now.capacity ≡ capacity = ap (λ (b : Buffered). b.capacity) (c.index_mut.ensures.value ∙ written) in
    let emptied : c.clear.new.self ≡ buffered capacity [] = rw (c.clear.ensures, held) refl in
    flushes capacity place c.args.worker _ _ m c.refs.result.now st c.requires.there batch c.in_ok-absorb.ensures.step (rw emptied refl)
