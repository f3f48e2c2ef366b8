use Rattle.warm_world.proofs.WorldLemmas.{missing_too}
use Rattle.warm_world.proofs.world.World.step.Goals as goal

pub returns-in-Err : goal.returns-in-Err
returns-in-Err g c = λ m st. missing_too _ m c.args.event c.in-Err.fault st c.in-Err.ensures.missing
