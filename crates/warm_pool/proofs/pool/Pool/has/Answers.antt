use Rattle.warm_pool.proofs.FrameChoiceLemmas.{ok_iff}
use Rattle.warm_pool.proofs.pool.Pool.has.Goals as goal

pub returns : goal.returns
returns g c = ok_iff c.check.result _ c.check.ensures.known c.check.ensures.unknown _ c.is_ok.ensures.value
