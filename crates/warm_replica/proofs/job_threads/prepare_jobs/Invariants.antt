use Rattle.std.proofs.Common.{◌≡◌, ◌≤◌, ◌++◌, length, vec_capacity}
use Rattle.std.specs.Vec.Iter.{into_iter_items}
use Rattle.warm_replica.specs.PreparedJobs.{ArePrepared}
use Rattle.warm_replica.proofs.job_threads.prepare_jobs.Given as goal

-- the jobs so far have their buffers, and there is capacity for all
abbrev pub invariant-loop-job : goal.invariant-loop-job
invariant-loop-job l = record {
  same : ArePrepared l.yielded l.all.items;
  rest : l.yielded ++ into_iter_items l.job-iterator ≡ l.fn.jobs.items;
  count : length l.all.items ≡ length l.yielded;
  capacity : length l.fn.jobs.items ≤ vec_capacity l.all;
}
