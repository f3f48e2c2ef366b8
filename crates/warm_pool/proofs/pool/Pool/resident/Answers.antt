use Rattle.warm_pool.proofs.FrameChoiceLemmas.{found_iff}
use Rattle.warm_pool.proofs.pool.Pool.resident.Goals as goal

pub returns : goal.returns
returns g c = rw (← c.self.view_is) (found_iff c.self.invariant c.args.page _ c.find.ensures _ c.is_some.ensures)
