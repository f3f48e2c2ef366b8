use Rattle.std.proofs.Common.{take}
use Rattle.std.specs.List.{AllByRecursion}
use Rattle.warm_world.specs.Widths.{EventFits}
use Rattle.warm_world.proofs.laws.events_fit.Given as goal

abbrev pub invariant-loop-event : goal.invariant-loop-event
invariant-loop-event l = AllByRecursion EventFits (take l.event-index l.events)
