use Rattle.warm_shards.proofs.VisitLawsHold.{giving_is_one_node}
use Rattle.warm_shards.proofs.VisitReadsLaws.{reading_is_one_node}
use Rattle.warm_shards.proofs.laws.visit_is_one_node.Goals as goal

pub returns-clause-giving : goal.returns-clause-giving
returns-clause-giving c = giving_is_one_node

pub returns-clause-reading : goal.returns-clause-reading
returns-clause-reading c = reading_is_one_node
