use Rattle.std.proofs.Common.{◌<◌, ap, ◌∙◌, arith, length}
use Rattle.warm_gossip.specs.State.{NodeState}
use Rattle.warm_history.specs.Histories.{HistoryView}
use Rattle.warm_shards.proofs.AreShardsLemmas.{some_shards}
use Rattle.warm_shards.proofs.Calls.{read_at}
use Rattle.warm_shards.proofs.EachShardLemmas.{restart_stops, restarted_all, settled_horizon, settled_unfixed}
use Rattle.warm_shards.proofs.each_shard.restart_all.Goals as goal

pub restart_each-requires : goal.restart_each-requires
restart_each-requires g c =
    settled_unfixed c.args.nodes.now.items c.settle_each.new.nodes.items c.in_ok-settle_each.ensures.settled c.requires.unfixed

pub returns-clause-restarted : goal.returns-clause-restarted
returns-clause-restarted g c =
    restarted_all c.args.nodes.now.items c.settle_each.new.nodes.items c.restart_each.new.nodes.items c.restart_each.result c.in_ok-settle_each.ensures.settled c.restart_each.ensures.restarted

pub returns-clause-refused : goal.returns-clause-refused
returns-clause-refused g c =
    let old = c.args.nodes.now.items in
    let mid = c.settle_each.new.nodes.items in
    let settles = c.in_ok-settle_each.ensures.settled in
    let some : 0 < length mid = omega (arith, some_shards old c.requires.shards, settles.count) in
    let first = read_at mid 0 c.index.result.now c.index.result.now some c.index.ensures in
    let horizon = c.horizon-horizon.ensures.value ∙ ap (λ (h : HistoryView). h.horizon) c.history.ensures ∙ ap (λ (n : NodeState). n.history.horizon) first ∙ settled_horizon old mid c.requires.shards settles in
    restart_stops old mid c.restart_each.new.nodes.items c.horizon-horizon.result c.restart_each.result horizon settles c.restart_each.ensures.refused
