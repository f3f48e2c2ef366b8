use Rattle.warm_visits.proofs.VisitGiven.{whole_is_given}
use Rattle.warm_visits.proofs.laws.visit_gives_the_whole.Goals as goal

pub returns : goal.returns
returns c = whole_is_given
