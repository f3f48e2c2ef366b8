use Rattle.std.proofs.Common.{subst}
use Rattle.std.proofs.lemmas.Result.{IfOk-at_ok}
use Rattle.warm_turn.specs.CallHistories.{Joined, Widened}
use Rattle.warm_replica.specs.PreparedJobs.{PreparedJobWentAs}
use Rattle.warm_replica.specs.Pairs.{Triples}
use Rattle.warm_replica.proofs.PreparedJobLemmas.{has_seen_more, jobs_went}
use Rattle.warm_replica.proofs.job_threads.run_workers.Goals as goal

pub returns-clause-went : goal.returns-clause-went
returns-clause-went g c =
    let given = c.pass-own.ensures.given in
    let v = c.args.pass.now.view in
    let own = c.run_prepared-own.result.0.view in
    let fanned = c.run_prepared-own.ensures.fanned in
    jobs_went g.M.Machine.goes v own c.end.new.pass.view given.0 c.args.jobs.items c.in_ok-prepared.prepared.items c.in_ok-replies.replies.items fanned.0
    c.in_ok-prepared.ensures
    (subst (λ u. Widened u fanned.0 own) given.1 fanned.1)
    (subst (λ u. Joined g.M.Machine.goes u own c.end.new.pass.view) c.pass-own.ensures.half c.end.ensures.seen)
    (IfOk-at_ok (λ w. Triples PreparedJobWentAs c.in_ok-prepared.prepared.items w.items fanned.0) c.in_ok-replies.was fanned.2)

pub returns-in_err-replies-clause-started : goal.returns-in_err-replies-clause-started
returns-in_err-replies-clause-started g c = λ _.
    let given = c.pass-own.ensures.given in
    let own = c.run_prepared-own.result.0.view in
    let fanned = c.run_prepared-own.ensures.fanned in
    has_seen_more g.M.Machine.goes c.args.pass.now.view own c.end.new.pass.view given.0 fanned.0
    (subst (λ u. Widened u fanned.0 own) given.1 fanned.1)
    (subst (λ u. Joined g.M.Machine.goes u own c.end.new.pass.view) c.pass-own.ensures.half c.end.ensures.seen)
