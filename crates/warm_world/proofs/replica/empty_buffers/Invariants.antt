use Rattle.std.proofs.Common.{◌≡◌, replicate, []}
use Rattle.warm_world.specs.WorldStands.{buffered}
use Rattle.warm_world.proofs.replica.empty_buffers.Given as goal

abbrev pub invariant-loop-worker : goal.invariant-loop-worker
invariant-loop-worker l = l.buffers.items ≡ replicate l._worker (buffered l.capacity [])
