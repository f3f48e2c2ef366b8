use Rattle.warm_shards.proofs.EachShardLemmas.{restarted_empty, restarted_shards}
use Rattle.warm_shards.proofs.shards.Shards.restart.Goals as goal

pub invariant_of-self : goal.invariant_of-self
invariant_of-self g c =
    restarted_shards c.self.inside.nodes.items c.restart_all.new.nodes.items c.restart_all.result c.self.invariant c.restart_all.ensures.restarted c.restart_all.ensures.refused

pub returns-clause-empty : goal.returns-clause-empty
returns-clause-empty g c =
    restarted_empty c.self.inside.nodes.items c.restart_all.new.nodes.items c.restart_all.result c.restart_all.ensures.restarted
