use Rattle.std.proofs.Common.{arith, rules}
use Rattle.warm_shards.specs.ShardsOfNodes.{CanBeShards}
use Rattle.warm_shards.proofs.ShardsOfNodesLemmas.{formed_shards, risen_each, risen_whole}
use Rattle.warm_shards.proofs.shards.Shards.from_nodes.Goals as goal

pub invariant_of-result : goal.invariant_of-result
invariant_of-result g c =
    let old = c.args.nodes.items in
    let new = c.raise_first.new.nodes.items in
    let can : CanBeShards c.args.id old = search rules in
    formed_shards c.args.id old new can (risen_each old new c.latest_horizon-horizon.result c.len-count.result c.latest_horizon-horizon.ensures (omega (arith, c.len-count.ensures)) c.raise_first.ensures)

pub returns-clause-raised : goal.returns-clause-raised
returns-clause-raised g c =
    let old = c.args.nodes.items in
    let new = c.raise_first.new.nodes.items in
    risen_each old new c.latest_horizon-horizon.result c.len-count.result c.latest_horizon-horizon.ensures (omega (arith, c.len-count.ensures)) c.raise_first.ensures

pub returns-clause-whole : goal.returns-clause-whole
returns-clause-whole g c =
    let old = c.args.nodes.items in
    let new = c.raise_first.new.nodes.items in
    let can : CanBeShards c.args.id old = search rules in
    risen_whole old new can.count (risen_each old new c.latest_horizon-horizon.result c.len-count.result c.latest_horizon-horizon.ensures (omega (arith, c.len-count.ensures)) c.raise_first.ensures)
