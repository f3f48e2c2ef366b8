use Rattle.std.proofs.Common.{◌++◌, ◌∷◌, [], length, append_assoc, ap, sym, ◌∙◌, arith}
use Rattle.std.proofs.lemmas.List.{length-append}
use Rattle.warm_replica.proofs.PairLemmas.{pairs_more}
use Rattle.warm_replica.specs.PreparedJobs.{IsPrepared}
use Rattle.warm_replica.proofs.job_threads.prepare_jobs.Goals as goal

pub loop-job-init : goal.loop-job-init
loop-job-init c = record {
  same = rw c.in_ok-all.ensures.items tt;
  rest = c.into_iter-job-iterator.ensures.into_iter_gives.0;
  count = ap length c.in_ok-all.ensures.items;
  capacity = omega (arith, c.in_ok-all.ensures.exact, c.len.ensures, c.args.jobs.ok.0);
}

pub loop-job-preserved : goal.loop-job-preserved
loop-job-preserved c =
    let so_far = c.loop-job.yielded in
    let job = c.in-Some.job in
    record {
      same = rw c.push_reserved.ensures.items
          (pairs_more IsPrepared so_far c.loop-job.all.items job c.in_ok-prepare_job.field-0 c.loop-job.invariant.same c.in_ok-prepare_job.ensures);
      rest = append_assoc so_far (job ∷ []) c.next.new.self.rest.items ∙ (ap (λ r. so_far ++ r) (sym c.in-Some.ensures.steps.0) ∙ c.loop-job.invariant.rest);
      count = ap length c.push_reserved.ensures.items ∙ omega (arith, length-append c.loop-job.all.items (c.in_ok-prepare_job.field-0 ∷ []), length-append so_far (job ∷ []), c.loop-job.invariant.count);
      capacity = omega (arith, c.push_reserved.ensures.capacity, c.loop-job.invariant.capacity);
    }
