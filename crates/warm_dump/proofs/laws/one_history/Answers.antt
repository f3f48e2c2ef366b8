use Rattle.warm_dump.proofs.LawLemmas.{one_history}
use Rattle.warm_dump.proofs.laws.one_history.Goals as goal

pub returns : goal.returns
returns c = one_history
