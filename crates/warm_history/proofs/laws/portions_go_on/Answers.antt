use Rattle.warm_history.proofs.SinceLaws.{portions_go_on}
use Rattle.warm_history.proofs.laws.portions_go_on.Goals as goal

pub returns : goal.returns
returns c = portions_go_on
