use Rattle.std.proofs.Common.{◌<◌, length, subst, sym, arith}
use Rattle.warm_pool.specs.View.{IsUnfixed, view_of}
use Rattle.warm_gossip.specs.State.{NodeState}
use Rattle.warm_shards.specs.EachShard.{DeviceFails, ShardRestarts}
use Rattle.warm_shards.proofs.EachShardLemmas.{fails_only, fails_risen, was_left}
use Rattle.warm_shards.proofs.each_shard.restart_each.Goals as goal

pub returns-in-Err-clause-refused : goal.returns-in-Err-clause-refused
returns-in-Err-clause-refused g c =
    let old = c.args.nodes.now.items in
    let ns = c.loop-shard.nodes.items in
    let k = c.loop-shard.shard in
    let n = c.index_mut.result.now in
    let gone = c.loop-shard.invariant.gone in
    let lt : k < length ns = omega (arith, gone.count, c.loop-shard.invariant.count, c.loop-shard-test.true) in
    let here = was_left ShardRestarts old ns k n n lt c.index_mut.ensures.value gone in
    let unfixed : IsUnfixed (view_of n.pool) = subst (λ (x : NodeState). IsUnfixed (view_of x.pool)) (sym here) (c.requires k (omega (arith, lt, gone.count))) in
    let fails = fails_only c.in-Err.why n c.restart.new.self unfixed c.in-Err.ensures.step c.in-Err.ensures.devices in
    (fails.0, fails_risen c.args.horizon DeviceFails old ns c.raise_first.new.nodes.items k n c.restart.new.self n lt c.index_mut.ensures.value fails.1 gone c.raise_first.ensures)
