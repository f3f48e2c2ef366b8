use Rattle.std.proofs.Common.{[], arith}
use Rattle.warm_world.proofs.WorldLemmas.{workers_at}
use Rattle.warm_world.proofs.world.World.worker_count.Goals as goal

pub returns : goal.returns
returns g c = omega (arith, c.len.ensures, c.index.result.now.buffers.ok.0, workers_at _ _ [] c.args.i c.index.result.now c.requires (rw c.index_of_number.ensures at c.index.ensures))
