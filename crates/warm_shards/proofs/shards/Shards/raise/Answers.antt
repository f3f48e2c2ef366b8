use Rattle.std.proofs.Common.{List, subst}
use Rattle.warm_gossip.specs.State.{NodeState}
use Rattle.warm_shards.specs.Given.{AreGiven}
use Rattle.warm_visits.specs.Given.{at_horizon}
use Rattle.warm_shards.proofs.shards.Shards.raise.Goals as goal

pub returns : goal.returns
returns g c =
    let all = subst (λ (xs : List NodeState). AreGiven (at_horizon c.args.time) xs c.raise_all.new.nodes.items) c.self.view_is c.raise_all.ensures.given in
    record { step = λ pool. (all.given pool, c.raise_all.ensures.kept); pools = all.pools }
