use Rattle.warm_pool.proofs.RefreshingLemmas.{RenewedFirst}
use Rattle.warm_pool.proofs.pool.Pool.refresh_all.Given as goal

-- the ranks of the pages of the frames so far were renewed
abbrev pub invariant-loop-at : goal.invariant-loop-at
invariant-loop-at g l = RenewedFirst l.fn.self l.self l.history l.at
