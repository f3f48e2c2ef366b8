use Rattle.warm_gossip.specs.State.{node_view}
use Rattle.warm_gossip.proofs.WarmUpLemmas.{warm_up_loads}
use Rattle.warm_gossip.proofs.laws.node_warms_up.Goals as goal

pub returns : goal.returns
returns g c = λ S new stands unfixed. warm_up_loads S (node_view c.args.node.now) new stands c.node_pages_differ.ensures unfixed
