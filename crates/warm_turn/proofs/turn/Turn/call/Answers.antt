use Rattle.std.proofs.Common.{ap}
use Rattle.warm_turn.proofs.PassLemmas.{called_step, visit_is_call}
use Rattle.warm_turn.proofs.turn.Turn.call.Goals as goal

pub returns-in-Ok-clause-called : goal.returns-in-Ok-clause-called
returns-in-Ok-clause-called g c = visit_is_call g.M.Machine.goes _ _ _ _ c.in-Ok.ensures.visited

pub returns-in-Ok-clause-step : goal.returns-in-Ok-clause-step
returns-in-Ok-clause-step g c = called_step g.M.Machine.goes _ _ _ _ (returns-in-Ok-clause-called g c)

pub returns-in-Err-clause-given_back : goal.returns-in-Err-clause-given_back
returns-in-Err-clause-given_back g c = ap (λ v. v.call) c.in-Err.ensures.given_back
