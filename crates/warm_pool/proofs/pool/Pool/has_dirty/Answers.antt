use Rattle.warm_pool.proofs.DirtyPageLemmas.{found_iff_dirty, absent_not_dirty}
use Rattle.warm_pool.proofs.FrameChoiceLemmas.{found_there}
use Rattle.warm_pool.proofs.pool.Pool.has_dirty.Goals as goal

pub is_dirty-requires : goal.is_dirty-requires
is_dirty-requires g c = found_there c.self.invariant c.args.page c.in-Some.at c.in-Some.ensures

pub returns-in-Some : goal.returns-in-Some
returns-in-Some g c = found_iff_dirty c.self.view_is c.self.invariant c.args.page c.in-Some.at c.in-Some.ensures c.is_dirty.result c.is_dirty.ensures

pub returns-in-None : goal.returns-in-None
returns-in-None g c = absent_not_dirty c.self.view_is c.self.invariant c.args.page c.in-None.ensures
