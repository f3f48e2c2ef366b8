use Rattle.warm_world.proofs.WidthLemmas.{runs_fit}
use Rattle.warm_world.proofs.laws.runs_fit.Goals as goal

pub returns : goal.returns
returns c = runs_fit
