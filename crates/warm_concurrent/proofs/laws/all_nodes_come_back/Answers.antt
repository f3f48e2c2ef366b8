use Rattle.warm_concurrent.proofs.CloseRightLemmas.{nodes_come_back}
use Rattle.warm_concurrent.proofs.laws.all_nodes_come_back.Goals as goal

pub returns : goal.returns
returns c = nodes_come_back
