use Rattle.warm_history.proofs.JoinLemmas.{history_of_union}
use Rattle.warm_history.proofs.laws.history_of_union.Goals as goal

pub returns : goal.returns
returns c = history_of_union
