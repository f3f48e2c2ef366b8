use Rattle.std.proofs.Common.{◌≡◌, map, ap, subst}
use Rattle.std.specs.Prelude.{IfErr}
use Rattle.warm_gossip.specs.State.{node_view}
use Rattle.warm_world.specs.declared.play_fault.PlayFault.TheVariants.{BadLine, WriteFault}
use Rattle.warm_player.specs.Answers.{Prints}
use Rattle.warm_world.specs.Nodes.{nodes_over}
use Rattle.warm_threads.specs.ReplicaTexts.{replicas_text}
use Rattle.warm_world.specs.Views.{listed}
use Rattle.warm_threads.proofs.PlayLemmas.{played_of}
use Rattle.warm_threads.proofs.play.play_threads.Goals as goal

pub returns-clause-bad : goal.returns-clause-bad
returns-clause-bad g c = λ number is.
    let never : BadLine number ≡ WriteFault = subst (λ r. IfErr r (λ why. why ≡ WriteFault)) is c.print_replicas.ensures.why in
    absurd (cc)

pub returns-clause-played : goal.returns-clause-played
returns-clause-played g c =
    let old = g.W.Write.contents c.args.writer.now in
    let new = g.W.Write.contents c.print_replicas.new.writer in
    let opened : map node_view c.in_ok-nodes.nodes.items ≡ map node_view (nodes_over c.args.setup 1 (listed g.D.PageDevice.state c.args.devices.items)) = ap (map node_view) c.in_ok-nodes.ensures.opened in
    played_of c.print_replicas.result (g.R.Read.remaining c.args.reader.now) old new c.args.setup _ _ (map node_view c.in_ok-nodes-2.nodes.items) c.in_ok-nodes-2.ensures.went.0
    opened c.in_ok-nodes-2.ensures.went.1 c.in_ok-nodes-2.ensures.went.2
    (subst (λ ns. Prints c.print_replicas.result old new (replicas_text 1 (map node_view ns))) c.deref.ensures.value c.print_replicas.ensures.printed)
