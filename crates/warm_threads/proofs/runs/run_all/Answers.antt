use Rattle.std.proofs.Common.{◌≤◌, length}
use Rattle.warm_replica.specs.declared.job_threads.TheConstants.{MAX_JOBS}
use Rattle.warm_threads.proofs.PairLemmas.{all_mapped, if_ok_then}
use Rattle.warm_threads.proofs.RunLemmas.{went_all}
use Rattle.warm_threads.proofs.runs.run_all.Goals as goal

pub all_work-requires-clause-few : goal.all_work-requires-clause-few
all_work-requires-clause-few g c κs within = all_mapped _ (λ list. length list.items ≤ MAX_JOBS) c.in_ok-runs.runs.items c.args.jobs.items c.in_ok-runs.ensures.jobs c.requires.few

pub returns : goal.returns
returns g c =
    if_ok_then _ _ c.all_receive.result
    (λ v received. went_all g.M.Machine.goes g.M.Machine.view c.args.machines.items c.args.jobs.items c.in_ok-runs.runs.items c.in_ok-worked.worked.items c.in_ok-sent.sent.items v.items
    (λ r. r.machine) (λ r. r.jobs) (λ k. k.machine) (λ h. h.machine)
    c.in_ok-runs.ensures.machines c.in_ok-runs.ensures.jobs c.in_ok-worked.ensures c.in_ok-sent.ensures received)
    c.all_receive.ensures
