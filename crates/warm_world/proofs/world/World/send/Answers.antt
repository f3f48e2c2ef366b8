use Rattle.std.proofs.Common.{refl}
use Rattle.std.proofs.lemmas.Result.{err_from_is_err_and}
use Rattle.warm_history.specs.Carried.{carried}
use Rattle.warm_frames.specs.declared.layout.TheConstants.{MAX_ENTRIES}
use Rattle.warm_world.specs.declared.event.Event.TheVariants.{Send}
use Rattle.warm_world.specs.Replicas.{answered}
use Rattle.warm_world.specs.States.{References, reach_of}
use Rattle.warm_world.proofs.PoolCallLemmas.{send_refused}
use Rattle.warm_world.proofs.MessageLemmas.{kept_one}
use Rattle.warm_world.proofs.HistoryLemmas.{sent_kept}
use Rattle.warm_world.proofs.WorldLemmas.{named_too, no_memory_still, node_at}
use Rattle.warm_world.proofs.world.World.send.Goals as goal

pub returns : goal.returns
returns g c = λ m st.
    let at = rw c.index_of_number.ensures at c.index.ensures in
    let event = Send c.args.i c.args.bucket c.args.after in
    let named = named_too _ m event st c.requires.named in
    let node = node_at _ _ _ m event c.index.result.now st c.requires.named at in
    let message = sent_kept m _ c.in_ok-message.message c.args.i c.args.bucket c.args.after c.in_ok-message.ensures.0 node in
    kept_one _ _ m event c.in_ok-message.message (answered c.store.result) (References c.args.i (carried (reach_of m c.args.i) c.args.bucket c.args.after MAX_ENTRIES)) st message c.store.ensures (λ n new is becomes. (named, (is, becomes))) (named, refl)

pub returns-in_err-message : goal.returns-in_err-message
returns-in_err-message g c =
    let given = err_from_is_err_and c.from_residual.result c.from_residual.ensures.1 in
    rw (given.1, given.2) (λ m st.
    let event = Send c.args.i c.args.bucket c.args.after in
    let why = c.in_err-message.field-0.0 in
    no_memory_still _ m event why st (send_refused _ _ c.args.bucket c.args.after why c.in_err-message.ensures) (named_too _ m event st c.requires.named, refl))
