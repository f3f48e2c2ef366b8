use Rattle.warm_rank.proofs.RaisedLemmas.{taking_in_raises}
use Rattle.warm_rank.proofs.laws.taking_in_raises.Goals as goal

pub returns : goal.returns
returns c = taking_in_raises
