use Rattle.std.proofs.Common.{◌-◌, ap, refl, sym, ◌∙◌}
use Rattle.warm_gossip.specs.State.{NodeView}
use Rattle.warm_world.specs.declared.event.Event.TheVariants.{Horizon}
use Rattle.warm_world.specs.declared.event.Answer.TheVariants.{Kept}
use Rattle.warm_world.specs.Views.{ReplicaView}
use Rattle.warm_world.specs.States.{ReplicaState, raised_replica, replica}
use Rattle.warm_world.proofs.ReplicaBufferLemmas.{horizon_seen, raises}
use Rattle.warm_world.proofs.WorldLemmas.{changes, place_in, replica_set_at, stands_at}
use Rattle.warm_world.proofs.world.World.horizon.Goals as goal

pub returns : goal.returns
returns g c = rw c.index_of_number.ensures (λ m st.
    let k = c.args.i - 1 in
    let at = rw c.index_of_number.ensures at c.index_mut.ensures.value in
    let event = Horizon c.args.i c.args.time in
    let r = raised_replica c.args.time (replica m k) in
    let after = raises m.capacity k c.args.time _ _ (replica m k) (stands_at _ _ _ m k c.index_mut.result.now st (place_in _ _ _ event c.requires.named) at)
    (ap (λ (n : NodeView). let s : ReplicaView = record { node = n; buffers = c.index_mut.result.now.buffers.items } in s) c.raise.ensures.step.0) in
    changes _ _ _ m event (Kept c.raise.result) c.index_mut.result.now _ r st c.requires.named at (λ here. after)
    (λ named. (named, (c.raise.ensures.step.1 ∙ horizon_seen m.capacity k _ r after ∙ ap (λ (s : ReplicaState). s.reach.horizon) (sym (replica_set_at m event r named)), refl))))
