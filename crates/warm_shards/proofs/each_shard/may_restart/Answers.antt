use Rattle.std.proofs.Common.{subst, arith}
use Rattle.warm_pool.specs.State.{IsPool}
use Rattle.warm_shards.proofs.EachShardLemmas.{none_fixed}
use Rattle.warm_shards.proofs.each_shard.may_restart.Goals as goal

pub returns-clause-may : goal.returns-clause-may
returns-clause-may g c =
    none_fixed c.args.node.now.pool (subst IsPool c.pool.ensures c.prove_is_pool.ensures) (λ k lt. c.loop-dev.invariant.unfixed k (omega (arith, lt, c.loop-dev.invariant.count, c.loop-dev-test.false)))
