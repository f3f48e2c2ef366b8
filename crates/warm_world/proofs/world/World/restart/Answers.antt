use Rattle.std.proofs.Common.{◌-◌, refl, subst}
use Rattle.std.proofs.lemmas.Result.{err_from_is_err_and}
use Rattle.warm_pool.specs.Retiring.{Emptied}
use Rattle.warm_gossip.specs.State.{NodeView}
use Rattle.warm_gossip.proofs.GivenLemmas.{refused_keeps}
use Rattle.warm_gossip.specs.declared.call.Call.TheVariants as call
use Rattle.warm_gossip.specs.declared.call.Reply.TheVariants as reply
use Rattle.warm_world.specs.declared.event.Event.TheVariants.{Restart}
use Rattle.warm_world.specs.declared.event.Answer.TheVariants as answer
use Rattle.warm_world.specs.declared.event.WorldFault.TheVariants.{Node}
use Rattle.warm_world.specs.States.{replica, restarted}
use Rattle.warm_world.proofs.ReplicaBufferLemmas.{restarts}
use Rattle.warm_world.proofs.WorldLemmas.{asked, changes, node_at}
use Rattle.warm_world.proofs.world.World.restart.Goals as goal

pub returns : goal.returns
returns g c = rw c.index_of_number.ensures (λ m st.
    let k = c.args.i - 1 in
    let at = rw c.index_of_number.ensures at c.index_mut.ensures.value in
    let event = Restart c.args.i in
    let did = c.in_ok-restart.ensures in
    let node = node_at _ _ _ m event c.index_mut.result.now st c.requires.named at in
    changes _ _ _ m event answer.Done c.index_mut.result.now _ (restarted did.0 (replica m k)) st c.requires.named at
    (λ here. restarts m.capacity k _ _ (replica m k) did.0 here did.2)
    (λ named. (named, (did.0, subst (λ (v : NodeView). Emptied v.pool did.0) node did.1, refl))))

pub returns-in_err-restart : goal.returns-in_err-restart
returns-in_err-restart g c =
    let given = err_from_is_err_and c.from_residual.result c.from_residual.ensures.1 in
    rw (given.1, given.2, c.index_of_number.ensures) (λ m st.
    let at = rw c.index_of_number.ensures at c.index_mut.ensures.value in
    let why = c.in_err-restart.field-0.0 in
    asked _ _ _ m (Restart c.args.i) call.Restart (reply.Refused why) (answer.Refused (Node why)) _ _ st c.requires.named at
    c.in_err-restart.ensures.1 (refused_keeps _ call.Restart why _ c.in_err-restart.ensures.0) c.in_err-restart.ensures.0 (λ new named asks. (named, asks)))
