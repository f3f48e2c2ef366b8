use Rattle.std.proofs.Common.{[], ◌-◌, refl, sym, ap}
use Rattle.std.proofs.lemmas.Result.{err_from_is_err_and}
use Rattle.warm_gossip.specs.State.{NodeView}
use Rattle.warm_world.specs.declared.event.Event.TheVariants.{Refer}
use Rattle.warm_world.specs.declared.event.Answer.TheVariants.{Done}
use Rattle.warm_world.specs.States.{replica, referred}
use Rattle.warm_world.specs.Effects.{stamped}
use Rattle.warm_world.proofs.WorldLemmas.{changes, no_memory, node_at, worker_in}
use Rattle.warm_world.proofs.world.World.refer.Goals as goal

pub refer-requires : goal.refer-requires
refer-requires g c =
    let at = rw c.index_of_number.ensures at c.index_mut.ensures.value in
    record { there = rw c.index_of_number-worker.ensures (worker_in _ _ [] c.args.i c.args.w c.index_mut.result.now c.requires.named.replica_there at c.requires.named.worker_there) }

pub returns : goal.returns
returns g c = rw c.index_of_number.ensures (λ m st.
    let k = c.args.i - 1 in
    let at = rw c.index_of_number.ensures at c.index_mut.ensures.value in
    let event = Refer c.args.i c.args.w c.args.page c.args.time in
    let made = stamped c.args.i c.args.page c.args.time in
    let node = node_at _ _ _ m event c.index_mut.result.now st c.requires.named at in
    changes _ _ _ m event Done c.index_mut.result.now _ (referred m.capacity (c.args.w - 1) made (replica m k)) st c.requires.named at
    (rw (← c.index_of_number-worker.ensures) (c.in_ok-refer.ensures.ok m.capacity made (sym (ap (λ (n : NodeView). stamped n.id c.args.page c.args.time) node)) k (replica m k))) (λ named. (named, refl)))

pub returns-in_err-refer : goal.returns-in_err-refer
returns-in_err-refer g c =
    let given = err_from_is_err_and c.from_residual.result c.from_residual.ensures.1 in
    rw (given.1, given.2, c.index_of_number.ensures) (λ m st.
    let k = c.args.i - 1 in
    let at = rw c.index_of_number.ensures at c.index_mut.ensures.value in
    no_memory _ _ _ m (Refer c.args.i c.args.w c.args.page c.args.time) c.index_mut.result.now _ c.in_err-refer.field-0.0 st c.requires.named at
    c.in_err-refer.ensures.err.1 c.in_err-refer.ensures.err.0 (λ named here. (named, (rw c.index_of_number-worker.ensures at (c.in_err-refer.ensures.full m.capacity k (replica m k) here), refl))))
