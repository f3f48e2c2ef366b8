use Rattle.std.proofs.Common.{List, subst}
use Rattle.warm_gossip.specs.State.{NodeState}
use Rattle.warm_history.specs.ReferenceSets.{set_of_list}
use Rattle.warm_shards.specs.Given.{Gives}
use Rattle.warm_shards.proofs.shards.Shards.absorb.Goals as goal

pub returns : goal.returns
returns g c =
    let all = subst (λ (xs : List NodeState). Gives (set_of_list c.args.batch.now) xs c.absorb_parts.result c.absorb_parts.new.nodes.items) c.self.view_is c.absorb_parts.ensures in
    record { absorbed = all.given; refused = all.refused; pools = all.pools }
