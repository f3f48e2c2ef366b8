use Rattle.std.proofs.Common.{◌∙◌, arith}
use Rattle.std.proofs.lemmas.Result.{err_from_is_err_and}
use Rattle.warm_shards.specs.EachShard.{DeviceFails, ShardSettles}
use Rattle.warm_shards.proofs.EachShardLemmas.{gone_stops}
use Rattle.warm_shards.proofs.each_shard.flush_each.Goals as goal

pub returns-in_err-write_back-clause-refused : goal.returns-in_err-write_back-clause-refused
returns-in_err-write_back-clause-refused g c =
    let given = err_from_is_err_and c.from_residual.result c.from_residual.ensures.1 in
    let refused = c.in_err-write_back.ensures.refused in
    rw (given.1) (given.2 ∙ refused.0, gone_stops ShardSettles DeviceFails c.args.nodes.now.items c.loop-shard.nodes.items c.loop-shard.shard c.index_mut.result.now c.write_back.new.self c.index_mut.result.now (omega (arith, c.loop-shard.invariant.gone.count, c.loop-shard.invariant.count, c.loop-shard-test.true)) c.index_mut.ensures.value (refused.1, c.in_err-write_back.ensures.stopped) c.loop-shard.invariant.gone)
