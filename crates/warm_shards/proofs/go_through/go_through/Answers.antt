use Rattle.std.proofs.Common.{◌<◌, length, sym, ◌∙◌, arith}
use Rattle.std.proofs.lemmas.List.{length-set}
use Rattle.warm_shards.proofs.VisitLemmas.{gone_more, named}
use Rattle.warm_shards.proofs.go_through.go_through.Goals as goal

pub loop-shard-preserved : goal.loop-shard-preserved
loop-shard-preserved g c =
    let i = c.loop-shard.invariant in
    let ns = c.loop-shard.nodes.items in
    let shard = c.in-Some.shard in
    let entered = c.enter.ensures.entered in
    let same = named c.loop-shard.visit c.enter.new.self shard c.index_mut.result.now c.enter.new.node entered.0 entered.1 c.in-Some.ensures.value entered.2 in
    let lt : shard < length ns = omega (arith, i.count, c.in-Some.ensures.below) in
    record {
      gone = gone_more c.args.visit.now c.loop-shard.visit c.enter.new.self c.args.nodes.now.items ns shard c.index_mut.result.now c.enter.new.node c.index_mut.result.now entered.0 entered.1 lt c.index_mut.ensures.value same i.gone entered.2;
      count = length-set ns shard c.enter.new.node ∙ i.count ∙ sym c.enter.ensures.count;
    }
