use Rattle.std.proofs.Common.{arith}
use Rattle.std.proofs.lemmas.Grind.{common_steps}
use Rattle.warm_threads.proofs.PlanLemmas.{plans_begin}
use Rattle.warm_threads.proofs.plan.empty_plans.Goals as goal

pub loop-replica-preserved : goal.loop-replica-preserved
loop-replica-preserved c = record {
  count = grind (arith, common_steps);
  workers = grind (arith, common_steps);
  empty = plans_begin c.args.setup _ c.loop-replica.plans.items _ c.in_ok-plans_for.field-0 c.in_ok-push.ensures.items c.in_ok-plans_for.ensures c.loop-replica.invariant.empty;
}
