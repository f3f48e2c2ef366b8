use Rattle.std.proofs.Common.{◌≤◌}
use Rattle.warm_pool.specs.WritingSome.{NoneDirty}
use Rattle.warm_pool.proofs.pool.Pool.next_dirty.Given as goal

-- no frame from the first one on was dirty so far
abbrev pub invariant-loop-at : goal.invariant-loop-at
invariant-loop-at g l = (l.from ≤ l.at) × NoneDirty l.self.frames l.from l.at
