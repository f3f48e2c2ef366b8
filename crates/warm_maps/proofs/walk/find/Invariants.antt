use Rattle.warm_maps.specs.Walks.{HoldsFrom, pairs_ahead}
use Rattle.warm_maps.proofs.walk.find.Given as goal

abbrev pub invariant-loop-step : goal.invariant-loop-step
invariant-loop-step l = HoldsFrom l.key (pairs_ahead l.ahead) l.map.entries
