use Rattle.warm_rank.specs.Behind.{AreRepaired}
use Rattle.warm_rank.proofs.slots.Contest.settle.Given as goal

abbrev pub invariant-loop-repair : goal.invariant-loop-repair
invariant-loop-repair g l = AreRepaired l.fn.self (g.C.CurrentKeys.keys l.current) l.self
