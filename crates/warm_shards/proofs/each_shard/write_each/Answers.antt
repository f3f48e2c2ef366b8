use Rattle.std.proofs.Common.{◌∙◌, arith}
use Rattle.std.proofs.lemmas.Result.{err_from_is_err_and}
use Rattle.warm_shards.specs.EachShard.{IsWritten, ShardWriteFails}
use Rattle.warm_shards.proofs.EachShardLemmas.{gone_stops}
use Rattle.warm_shards.proofs.each_shard.write_each.Goals as goal

pub returns-in_err-write_one-clause-refused : goal.returns-in_err-write_one-clause-refused
returns-in_err-write_one-clause-refused g c =
    let given = err_from_is_err_and c.from_residual.result c.from_residual.ensures.1 in
    let refused = c.in_err-write_one.ensures.refused in
    rw (given.1) (given.2 ∙ refused.0, gone_stops IsWritten ShardWriteFails c.args.nodes.now.items c.loop-shard.nodes.items c.loop-shard.shard c.index_mut.result.now c.write_one.new.node c.index_mut.result.now (omega (arith, c.loop-shard.invariant.gone.count, c.loop-shard.invariant.count, c.loop-shard-test.true)) c.index_mut.ensures.value refused.1 c.loop-shard.invariant.gone)
