use Rattle.std.proofs.Common.{◌≡◌, ◌+◌, map, take}
use Rattle.std.specs.Io.KnownBytes.{Appends}
use Rattle.warm_gossip.specs.State.{node_view}
use Rattle.warm_threads.specs.ReplicaTexts.{replicas_text}
use Rattle.warm_threads.proofs.play.print_replicas.Given as goal

-- the replicas so far are printed
abbrev pub invariant-loop-node : goal.invariant-loop-node
invariant-loop-node g l =
    let contents = g.W.Write.contents in
    record {
      number : l.number ≡ l.node-index + 1;
      written : Appends (contents l.fn.writer) (contents l.writer)
          (replicas_text 1 (map node_view (take l.node-index l.nodes)));
    }
