use Rattle.std.proofs.Common.{ap, ◌∙◌}
use Rattle.warm_frame_table.specs.Frames.{dirty_count}
use Rattle.warm_pool.specs.State.{PoolState}
use Rattle.warm_pool.proofs.pool.Pool.dirty.Goals as goal

pub returns : goal.returns
returns g c = c.dirty.ensures ∙ ap (λ (s : PoolState). dirty_count s.frames) c.self.view_is
