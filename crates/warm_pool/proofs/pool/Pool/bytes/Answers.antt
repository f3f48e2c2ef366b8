use Rattle.warm_pool.proofs.PoolLemmas.{seen_holds}
use Rattle.warm_pool.proofs.WriteLemmas.{lent_seen}
use Rattle.warm_pool.proofs.pool.Pool.bytes.Goals as goal

pub returns : goal.returns
returns g c = rw (← c.self.view_is) (lent_seen c.self.invariant c.args.slot (seen_holds c.self.view_is c.requires.holds) _ c.bytes.ensures)
