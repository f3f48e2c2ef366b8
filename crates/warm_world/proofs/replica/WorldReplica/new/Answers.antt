use Rattle.std.proofs.Common.{refl}
use Rattle.warm_world.proofs.ReplicaBufferLemmas.{opened_stands}
use Rattle.warm_world.proofs.replica.WorldReplica.new.Goals as goal

pub returns : goal.returns
returns g c = λ place number.
    opened_stands c.args.setup _ place _ _ _ _ _ c.buffer.ensures.limits.from_one c.buffer.ensures.value c.workers.ensures.value
    number c.in_ok-node.ensures c.in_ok-buffers.ensures
