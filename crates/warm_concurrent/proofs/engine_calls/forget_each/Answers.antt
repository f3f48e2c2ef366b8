use Rattle.std.proofs.Common.{◌<◌, length, arith}
use Rattle.warm_shard_machine.specs.declared.calls.ShardCall.TheVariants.{ForgetPages}
use Rattle.warm_concurrent.specs.Whole.{Does}
use Rattle.warm_shards.proofs.FirstLemmas.{one_first}
use Rattle.warm_concurrent.proofs.engine_calls.forget_each.Goals as goal

pub loop-shard-preserved : goal.loop-shard-preserved
loop-shard-preserved g c =
    let i = c.loop-shard.invariant in
    let k = c.loop-shard.shard in
    let old = c.args.passes.now.items in
    let lt : k < length old = omega (arith, i.count, c.loop-shard-test.true, c.requires.passes.count) in
    let ends = c.in_default.ensures.ends in
    record {
      of = c.do_in.ensures.passes;
      first = one_first (Does (ForgetPages c.args.dev c.args.from)) k old c.loop-shard.passes.items c.do_in.new.passes.items lt i.first ends.1 ends.0;
      count = i.count;
    }
