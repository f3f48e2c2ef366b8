use Rattle.warm_pool.proofs.PartialWriteBackLemmas.{SomeSoFar}
use Rattle.warm_pool.proofs.pool.Pool.clean_first.Given as goal

-- the pages of the frames so far were written back
abbrev pub invariant-loop-at : goal.invariant-loop-at
invariant-loop-at g l = SomeSoFar l.limit l.at l.room l.fn.self l.self
