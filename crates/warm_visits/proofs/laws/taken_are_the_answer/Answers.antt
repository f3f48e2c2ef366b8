use Rattle.warm_visits.proofs.VisitMessageLemmas.{taken_are_the_answer}
use Rattle.warm_visits.proofs.laws.taken_are_the_answer.Goals as goal

pub returns : goal.returns
returns c = taken_are_the_answer
