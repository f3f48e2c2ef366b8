use Rattle.warm_history.proofs.JoinLemmas.{taking_in_moves_up}
use Rattle.warm_history.proofs.laws.taking_in_moves_up.Goals as goal

pub returns : goal.returns
returns c = taking_in_moves_up
