use Rattle.warm_world.proofs.WarmUpLemmas.{warm_up_loads}
use Rattle.warm_world.proofs.laws.warm_up_loads.Goals as goal

pub returns : goal.returns
returns c = warm_up_loads
