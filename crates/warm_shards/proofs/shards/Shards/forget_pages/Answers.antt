use Rattle.warm_shards.proofs.EachShardLemmas.{forgotten_shards}
use Rattle.warm_shards.proofs.shards.Shards.forget_pages.Goals as goal

pub invariant_of-self : goal.invariant_of-self
invariant_of-self g c =
    forgotten_shards c.args.dev c.args.from c.self.inside.nodes.items c.forget_each.new.nodes.items c.self.invariant c.forget_each.ensures
