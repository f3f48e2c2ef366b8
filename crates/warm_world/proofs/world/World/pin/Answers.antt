use Rattle.std.proofs.Common.{refl}
use Rattle.warm_world.specs.declared.event.Event.TheVariants.{Pin}
use Rattle.warm_world.specs.Replicas.{answered}
use Rattle.warm_world.proofs.WorldLemmas.{asks}
use Rattle.warm_world.proofs.world.World.pin.Goals as goal

pub returns : goal.returns
returns g c =
    let at = rw c.index_of_number.ensures at c.index_mut.ensures.value in
    rw c.index_of_number.ensures (λ m st. asks _ _ _ m (Pin c.args.i c.args.page) c.args.i (answered c.ask.result) _ _ refl st c.requires.named at refl c.ask.ensures)
