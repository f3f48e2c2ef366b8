use Rattle.std.proofs.Common.{map}
use Rattle.warm_pool.specs.View.{view_of}
use Rattle.warm_rank.specs.Keys.{ranked_page}
use Rattle.warm_gossip.specs.WarmingUp.{IsPast}
use Rattle.warm_gossip.proofs.warm_step.first_loadable.Given as goal

-- none of the pages so far could be loaded
abbrev pub invariant-loop-at : goal.invariant-loop-at
invariant-loop-at g l = IsPast (map ranked_page l.list) l.at (view_of l.pool)
