use Rattle.std.proofs.Common.{List, subst}
use Rattle.warm_gossip.specs.State.{NodeState}
use Rattle.warm_history.specs.Histories.{references_of}
use Rattle.warm_shards.specs.Given.{Gives}
use Rattle.warm_shards.proofs.shards.Shards.join.Goals as goal

pub returns : goal.returns
returns g c =
    let all = subst (λ (xs : List NodeState). Gives (references_of c.args.other.now) xs c.join_all.result c.join_all.new.nodes.items) c.self.view_is c.join_all.ensures in
    record { joined = all.given; refused = all.refused; pools = all.pools }
