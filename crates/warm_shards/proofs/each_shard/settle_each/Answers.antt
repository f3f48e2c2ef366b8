use Rattle.std.proofs.Common.{◌∙◌, inr}
use Rattle.std.proofs.lemmas.Result.{err_from_is_err_and}
use Rattle.warm_shards.specs.EachShard.{DeviceFails, IsWritten, ShardFlushFails, ShardSettles}
use Rattle.warm_shards.proofs.EachShardLemmas.{then_stops, written_fails, written_then}
use Rattle.warm_shards.proofs.each_shard.settle_each.Goals as goal

pub returns-in_err-flush_each-clause-refused : goal.returns-in_err-flush_each-clause-refused
returns-in_err-flush_each-clause-refused g c =
    let given = err_from_is_err_and c.from_residual-in_err-flush_each.result c.from_residual-in_err-flush_each.ensures.1 in
    let refused = c.in_err-flush_each.ensures.refused in
    rw (given.1) (given.2 ∙ refused.0, inr (then_stops IsWritten ShardSettles DeviceFails ShardSettles ShardFlushFails written_then written_fails c.args.nodes.now.items c.write_each.new.nodes.items c.flush_each.new.nodes.items c.in_ok-write_each.ensures.written refused.1))
