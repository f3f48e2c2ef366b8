use Rattle.std.proofs.Common.{refl, arith}
use Rattle.warm_random.proofs.AppendLemmas.{Appends-none, Appends-then}
use Rattle.warm_threads.proofs.ReplicaTextLemmas.{one_more_printed}
use Rattle.warm_threads.proofs.play.print_replicas.Goals as goal

pub loop-node-init : goal.loop-node-init
loop-node-init g c = record { number = refl; written = Appends-none _ }

pub loop-node-preserved : goal.loop-node-preserved
loop-node-preserved g c =
    let here = rw c.history.ensures at c.in-Ok.ensures in
    record {
      number = omega (arith, c.loop-node.invariant.number);
      written = rw (one_more_printed _ c.args.nodes.now c.loop-node.node-index c.loop-node.number c.node-item.result c.loop-node-test.true c.node-item.is c.loop-node.invariant.number)
          (Appends-then _ _ _ _ _ c.loop-node.invariant.written here);
    }
