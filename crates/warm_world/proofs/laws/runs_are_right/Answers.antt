use Rattle.warm_world.proofs.RunLemmas.{runs_are_right}
use Rattle.warm_world.proofs.laws.runs_are_right.Goals as goal

pub returns : goal.returns
returns c = runs_are_right
