use Rattle.warm_threads.proofs.PlanLemmas.{jobs_of_plans}
use Rattle.warm_threads.proofs.plan.jobs_in.Goals as goal

pub returns-clause-jobs : goal.returns-clause-jobs
returns-clause-jobs c = jobs_of_plans c.args.setup _ c.in_ok-plans.plans.items c.in_ok-all.all.items c.in_ok-plans.ensures.shape c.in_ok-plans.ensures.plans c.in_ok-all.ensures
