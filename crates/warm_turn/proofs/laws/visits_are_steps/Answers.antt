use Rattle.warm_turn.proofs.PassLemmas.{called_step}
use Rattle.warm_turn.proofs.laws.visits_are_steps.Goals as goal

pub returns : goal.returns
returns g c visitor output v w h = (h.0, h.1, h.2, called_step g.M.Machine.goes v w h.0 h.1 h.3, h.3.unmarked.0)
