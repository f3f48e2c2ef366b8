use Rattle.std.proofs.Common.{◌++◌, ◌∷◌, [], append_assoc, ap, sym, ◌∙◌}
use Rattle.warm_threads.specs.Plans.{DoesPlan}
use Rattle.warm_threads.proofs.NumberLemmas.{pairs_more}
use Rattle.warm_threads.proofs.plan.jobs_of.Goals as goal

pub loop-plan-preserved : goal.loop-plan-preserved
loop-plan-preserved c =
    let so_far = c.loop-plan.yielded in
    record {
      rest = append_assoc so_far (c.in-Some.plan ∷ []) c.next.new.self.rest.items ∙ (ap (λ r. so_far ++ r) (sym c.in-Some.ensures.steps.0) ∙ c.loop-plan.invariant.rest);
      pairs = rw c.in_ok-push.ensures.items (pairs_more (DoesPlan c.args.capacity) so_far c.loop-plan.jobs.items c.in-Some.plan c.in_ok-job_of.field-0 c.loop-plan.invariant.pairs c.in_ok-job_of.ensures);
    }
