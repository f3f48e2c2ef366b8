use Rattle.std.proofs.Common.{[], ◌-◌, refl}
use Rattle.std.proofs.lemmas.Result.{err_from_is_err_and}
use Rattle.warm_world.specs.declared.event.Event.TheVariants.{Flush}
use Rattle.warm_world.specs.declared.event.Answer.TheVariants.{Done}
use Rattle.warm_world.specs.States.{replica, flushed}
use Rattle.warm_world.proofs.WorldLemmas.{changes, no_memory, worker_in}
use Rattle.warm_world.proofs.world.World.flush.Goals as goal

pub flush-requires : goal.flush-requires
flush-requires g c =
    let at = rw c.index_of_number.ensures at c.index_mut.ensures.value in
    record { there = rw c.index_of_number-worker.ensures (worker_in _ _ [] c.args.i c.args.w c.index_mut.result.now c.requires.named.replica_there at c.requires.named.worker_there) }

pub returns : goal.returns
returns g c = rw c.index_of_number.ensures (λ m st.
    let k = c.args.i - 1 in
    let at = rw c.index_of_number.ensures at c.index_mut.ensures.value in
    changes _ _ _ m (Flush c.args.i c.args.w) Done c.index_mut.result.now _ (flushed (c.args.w - 1) (replica m k)) st c.requires.named at
    (rw (← c.index_of_number-worker.ensures) (c.in_ok-flush.ensures.ok m.capacity k (replica m k))) (λ named. (named, refl)))

pub returns-in_err-flush : goal.returns-in_err-flush
returns-in_err-flush g c =
    let given = err_from_is_err_and c.from_residual.result c.from_residual.ensures.1 in
    rw (given.1, given.2, c.index_of_number.ensures) (λ m st.
    let at = rw c.index_of_number.ensures at c.index_mut.ensures.value in
    no_memory _ _ _ m (Flush c.args.i c.args.w) c.index_mut.result.now _ c.in_err-flush.field-0.0 st c.requires.named at
    c.in_err-flush.ensures.err.1 c.in_err-flush.ensures.err.0 (λ named here. (named, refl)))
