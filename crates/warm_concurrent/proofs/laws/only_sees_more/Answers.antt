use Rattle.warm_concurrent.proofs.LawLemmas.{only_sees_more}
use Rattle.warm_concurrent.proofs.laws.only_sees_more.Goals as goal

pub returns : goal.returns
returns c = only_sees_more
