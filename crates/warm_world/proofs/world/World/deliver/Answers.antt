use Rattle.std.proofs.Common.{◌≡◌, ◌-◌, ap, refl, subst, sym, ◌∙◌}
use Rattle.std.proofs.lemmas.List.{get_or-set_same}
use Rattle.std.proofs.lemmas.Result.{err_from_is_err_and}
use Rattle.warm_history.specs.ReferenceSets.{with_horizon}
use Rattle.warm_history.specs.Histories.{history, references_of}
use Rattle.warm_frames.specs.Limits.{horizon_in}
use Rattle.warm_peer.specs.Answers.{IsAnswer}
use Rattle.warm_gossip.specs.State.{NodeView}
use Rattle.warm_world.specs.declared.event.Event.TheVariants.{Deliver}
use Rattle.warm_world.specs.Views.{ReplicaView, replica_view}
use Rattle.warm_world.proofs.PoolCallLemmas.{receive_refused}
use Rattle.warm_world.proofs.DeliveryLemmas.{raised_after, taken}
use Rattle.warm_world.proofs.MessageLemmas.{decoded_is}
use Rattle.warm_world.proofs.WorldLemmas.{no_memory, place_in}
use Rattle.warm_world.proofs.world.World.deliver.Goals as goal

-- entries: an allocation failed, or they are taken in
pub returns-in_err-receive : goal.returns-in_err-receive
returns-in_err-receive g c =
    let given = err_from_is_err_and c.from_residual.result c.from_residual.ensures.1 in
    rw (given.1, given.2, c.index_of_number-at.ensures) (λ m st.
    let at = rw c.index_of_number-at.ensures at c.index_mut.ensures.value in
    let why = c.in_err-receive.field-0.0 in
    let refused = receive_refused _ _ c.in-Ok.message why c.in_err-receive.ensures.step in
    no_memory _ _ _ m (Deliver c.args.j c.args.k) c.index_mut.result.now _ why st c.requires.named at
    (ap (λ (n : NodeView). let r : ReplicaView = record { node = n; buffers = c.index_mut.result.now.buffers.items } in r) refused.1) refused.0 (λ named here. (named, refl)))

pub returns-in-Entries : goal.returns-in-Entries
returns-in-Entries g c = rw c.index_of_number-at.ensures (λ m st.
    let at = rw c.index_of_number-at.ensures at c.index_mut.ensures.value in
    let read = rw c.index_of_number.ensures at c.index.ensures in
    let found = decoded_is _ m c.args.k c.args.self.now.messages.items c.index.result.now _ c.decode.result c.in-Ok.message st refl c.requires.named.message_there read c.deref.ensures.value c.decode.ensures.only c.in-Ok.is in
    taken _ _ _ m c.args.j c.args.k _ _ _ _ _ c.in-Ok.message _ _ st c.requires.named at found c.in-Entries.is c.in_ok-receive.ensures.step.0 c.in_ok-receive.ensures.step.1 refl)

-- digests or a request: an allocation failed, of the answers or as they are stored
pub returns-in_err-answers : goal.returns-in_err-answers
returns-in_err-answers g c =
    let given = err_from_is_err_and c.from_residual-in_err-answers.result c.from_residual-in_err-answers.ensures.1 in
    rw (given.1, given.2, c.index_of_number-at.ensures) (λ m st.
    let at = rw c.index_of_number-at.ensures at c.index_mut-2.ensures.value in
    no_memory _ _ _ m (Deliver c.args.j c.args.k) c.index_mut-2.result.now _ c.in_err-answers.field-0.0 st c.requires.named at
    (ap (λ (n : NodeView). let r : ReplicaView = record { node = n; buffers = c.index_mut-2.result.now.buffers.items } in r) c.in_err-answers.ensures.same)
    c.in_err-answers.ensures.refused (λ named here. (named, refl)))

pub returns-in_err-answer : goal.returns-in_err-answer
returns-in_err-answer g c =
    let given = err_from_is_err_and c.from_residual-in_err-answer.result c.from_residual-in_err-answer.ensures.1 in
    rw (given.1, given.2, c.index_of_number-at.ensures, c.in_err-answer.ensures.err) (λ m st.
    let at = rw c.index_of_number-at.ensures at c.index_mut-2.ensures.value in
    no_memory _ _ _ m (Deliver c.args.j c.args.k) c.index_mut-2.result.now _ _ st c.requires.named at
    (ap (λ (n : NodeView). let r : ReplicaView = record { node = n; buffers = c.index_mut-2.result.now.buffers.items } in r) c.in_ok-answers.ensures.same)
    refl (λ named here. (named, refl)))

pub returns : goal.returns
returns g c = rw c.index_of_number-at.ensures (λ m st.
    let k = c.args.j - 1 in
    let at = rw c.index_of_number-at.ensures at c.index_mut-2.ensures.value in
    let read = rw c.index_of_number.ensures at c.index.ensures in
    let found = decoded_is _ m c.args.k c.args.self.now.messages.items c.index.result.now _ c.decode.result c.in-Ok.message st refl c.requires.named.message_there read c.deref.ensures.value c.decode.ensures.only c.in-Ok.is in
    let again = rw c.index_of_number-at.ensures at c.index_mut-3.ensures.value in
    let there = again ∙ get_or-set_same c.args.self.now.replicas.items k _ c.index_mut-3.result.now (place_in _ _ _ (Deliver c.args.j c.args.k) c.requires.named) in
    let risen = rw c.horizon.ensures at c.raise.ensures.step.0 in
    let becomes = ap (λ (n : NodeView). let r : ReplicaView = record { node = n; buffers = c.index_mut-3.result.now.buffers.items } in r) risen
    ∙ ap (λ (r : ReplicaView). let s : ReplicaView = record r { node = record r.node { history = history (with_horizon (horizon_in c.in-Ok.message) (references_of r.node.history)) } } in s) (ap replica_view there) in
    raised_after _ _ _ m c.args.j c.args.k _ _ _ c.in-Ok.message c.as_slice.result.now _ c.in_ok-answer.answer
    st c.requires.named at found c.in_default-message.not-Entries
    (subst (λ fs. IsAnswer c.index_mut-2.result.now.node.id c.index_mut-2.result.now.node.history c.in-Ok.message fs) (sym c.as_slice.ensures) c.in_ok-answers.ensures.answers)
    (ap (λ (n : NodeView). let r : ReplicaView = record { node = n; buffers = c.index_mut-2.result.now.buffers.items } in r) c.in_ok-answers.ensures.same)
    becomes c.in_ok-answer.ensures.ok)
