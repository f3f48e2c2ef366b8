use Rattle.warm_rank.proofs.RelistLemmas.{candidates_suffice}
use Rattle.warm_rank.proofs.laws.candidates_suffice.Goals as goal

pub returns : goal.returns
returns c = candidates_suffice
