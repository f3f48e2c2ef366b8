use Rattle.std.proofs.Common.{ap}
use Rattle.warm_history.specs.Histories.{history, history_of_entries}
use Rattle.warm_history.specs.maps.KeptPairs.{kept}
use Rattle.warm_history.proofs.history.History.new.Goals as goal

pub returns-clause-stands : goal.returns-clause-stands
unfolding history
returns-clause-stands c = ap (λ pairs. history_of_entries (kept pairs)) c.new.ensures
