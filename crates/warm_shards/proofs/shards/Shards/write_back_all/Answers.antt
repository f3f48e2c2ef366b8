use Rattle.warm_shards.proofs.EachShardLemmas.{settled_shards}
use Rattle.warm_shards.proofs.shards.Shards.write_back_all.Goals as goal

pub invariant_of-self : goal.invariant_of-self
invariant_of-self g c =
    settled_shards c.self.inside.nodes.items c.settle_each.new.nodes.items c.settle_each.result c.self.invariant c.settle_each.ensures.settled c.settle_each.ensures.refused
