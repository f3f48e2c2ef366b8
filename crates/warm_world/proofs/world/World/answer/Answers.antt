use Rattle.std.proofs.Common.{refl}
use Rattle.warm_world.specs.Replicas.{answered}
use Rattle.warm_world.proofs.WorldLemmas.{asks}
use Rattle.warm_world.proofs.world.World.answer.Goals as goal

pub returns-in_default : goal.returns-in_default
returns-in_default g c =
    let at = rw c.index_of_number.ensures at c.index_mut.ensures.value in
    rw c.index_of_number.ensures (λ m st. asks _ _ _ m c.args.event c.replica-i.result (answered c.ask.result) _ _ c.replica-i.ensures st c.requires.named at refl c.ask.ensures)
