use Rattle.warm_visits.proofs.VisitErrands.{errands_are_own}
use Rattle.warm_visits.proofs.laws.errands_are_own.Goals as goal

pub returns : goal.returns
returns c = errands_are_own
