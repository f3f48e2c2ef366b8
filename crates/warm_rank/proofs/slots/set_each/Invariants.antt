use Rattle.warm_rank.proofs.BehindLemmas.{AreCurrentTo}
use Rattle.warm_rank.proofs.slots.set_each.Given as goal

abbrev pub invariant-loop-slot : goal.invariant-loop-slot
invariant-loop-slot g l = AreCurrentTo (g.C.CurrentKeys.keys l.current) l.keys l.slot
