use Rattle.std.proofs.Common.{rules, subst}
use Rattle.std.specs.List.{All}
use Rattle.warm_turn.specs.CallHistories.{IsLast}
use Rattle.warm_replica.specs.Jobs.{JobsWent}
use Rattle.warm_replica.specs.Replied.{AreTaken}
use Rattle.warm_threads.proofs.RunLemmas.{jobs_work}
use Rattle.warm_threads.proofs.work.work.Goals as goal

pub returns : goal.returns
returns g c =
    let x = g.M.Machine.view c.args.machine in
    let z = g.M.Machine.view c.in_ok-machine.machine in
    let w = c.run_workers-ran.new.pass.view in
    let jobs = c.args.jobs.items in
    let replies = c.in_ok-all.all.items in
    let taken : All AreTaken replies = search rules in
    jobs_work g.M.Machine.goes x z w jobs replies
    (subst (λ v. JobsWent v jobs replies w) c.in_ok-replica.ensures.first c.in_ok-all.ensures.went)
    taken
    (subst (λ o. IsLast g.M.Machine.goes o w z) c.in_ok-replica.ensures.opening c.in_ok-machine.ensures.last)
