use Rattle.std.proofs.Common.{ap, refl}
use Rattle.std.proofs.lemmas.Result.{err_from_is_err_and}
use Rattle.warm_gossip.specs.State.{NodeView}
use Rattle.warm_world.specs.declared.event.Event.TheVariants.{Offer}
use Rattle.warm_world.specs.Replicas.{answered}
use Rattle.warm_world.specs.Views.{ReplicaView}
use Rattle.warm_world.specs.States.{reach_of}
use Rattle.warm_world.proofs.PoolCallLemmas.{offer_refused}
use Rattle.warm_world.proofs.MessageLemmas.{kept_one}
use Rattle.warm_world.proofs.HistoryLemmas.{offer_record, offers_kept}
use Rattle.warm_world.proofs.WorldLemmas.{named_too, no_memory, node_at, replica_stays}
use Rattle.warm_world.proofs.world.World.offer.Goals as goal

pub returns : goal.returns
returns g c = λ m st.
    let at = rw c.index_of_number.ensures at c.index_mut.ensures.value in
    let event = Offer c.args.i in
    let named = named_too _ m event st c.requires.named in
    let node = node_at _ _ _ m event c.index_mut.result.now st c.requires.named at in
    let message = offers_kept m _ c.in_ok-message.message c.args.i c.in_ok-message.ensures.step.0 node in
    let stays = replica_stays _ _ _ m event c.index_mut.result.now _ st c.requires.named at
    (ap (λ (n : NodeView). let r : ReplicaView = record { node = n; buffers = c.index_mut.result.now.buffers.items } in r) c.in_ok-message.ensures.step.1) in
    kept_one _ _ m event c.in_ok-message.message (answered c.store.result) (offer_record c.args.i (reach_of m c.args.i)) stays message (rw c.index_of_number.ensures at c.store.ensures) (λ n new is becomes. (named, (is, becomes))) (named, refl)

pub returns-in_err-message : goal.returns-in_err-message
returns-in_err-message g c =
    let given = err_from_is_err_and c.from_residual.result c.from_residual.ensures.1 in
    rw (given.1, given.2, c.index_of_number.ensures) (λ m st.
    let at = rw c.index_of_number.ensures at c.index_mut.ensures.value in
    let why = c.in_err-message.field-0.0 in
    let refused = offer_refused _ _ why c.in_err-message.ensures.step in
    no_memory _ _ _ m (Offer c.args.i) c.index_mut.result.now _ why st c.requires.named at
    (ap (λ (n : NodeView). let r : ReplicaView = record { node = n; buffers = c.index_mut.result.now.buffers.items } in r) refused.1) refused.0 (λ named here. (named, refl)))
