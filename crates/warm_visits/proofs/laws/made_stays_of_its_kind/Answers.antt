use Rattle.warm_visits.proofs.MadeLemmas.{made_stays_of_its_kind}
use Rattle.warm_visits.proofs.laws.made_stays_of_its_kind.Goals as goal

pub returns : goal.returns
returns c = made_stays_of_its_kind
