use Rattle.warm_threads.proofs.NodeLemmas.{nodes_count}
use Rattle.warm_threads.proofs.play.nodes_of.Goals as goal

pub returns-clause-count : goal.returns-clause-count
returns-clause-count g c = nodes_count c.args.setup _ c.in_ok-nodes.nodes.items c.requires.usable c.in_ok-nodes.ensures
