use Rattle.std.proofs.Common.{map}
use Rattle.warm_pool.proofs.RefreshingLemmas.{Renewed}
use Rattle.warm_pool.proofs.pool.Pool.refresh.Given as goal

-- the ranks of the pages named so far were renewed
abbrev pub invariant-loop-item : goal.invariant-loop-item
invariant-loop-item g l =
    Renewed l.fn.self l.self l.history (map g.T.NamesPage.named l.items) l.item-index
