use Rattle.warm_world.proofs.WidthLemmas.{histories_fit}
use Rattle.warm_world.proofs.laws.histories_fit.Goals as goal

pub returns : goal.returns
returns c = histories_fit
