use Rattle.std.proofs.Common.{rules, ap, ◌∙◌, arith}
use Rattle.warm_replica.specs.PreparedJobs.{PreparedJobWentAs}
use Rattle.warm_replica.specs.Pairs.{Triples}
use Rattle.warm_replica.proofs.JobThreadLemmas.{fan_none, fan_stop, fan_err, fan_fits, fan_more, job_as, ran_as, none_ended}
use Rattle.warm_turn.specs.CallHistories.{new_pass}
use Rattle.warm_replica.proofs.job_threads.+fan_out.Goals as goal

pub returns-in_default-clause-fanned : goal.returns-in_default-clause-fanned
returns-in_default-clause-fanned g t c = fan_none _ c.args.pass.now.view c.args.jobs.items c.args.all.now.items (search rules) c.requires.capacity.0

pub returns-in_err-child-clause-fanned : goal.returns-in_err-child-clause-fanned
returns-in_err-child-clause-fanned g t c = fan_stop (Triples PreparedJobWentAs c.args.jobs.items c.args.all.now.items) c.args.pass.now.view _ c.from_residual.result c.from_residual.ensures.0 c.pass-mine.ensures.half

pub returns-in-Err-clause-fanned : goal.returns-in-Err-clause-fanned
returns-in-Err-clause-fanned g t c =
    let buffer = c.in_ok-child.ensures.buffer in
    let steps = c.in_ok-child.ensures.steps in
    let start = c.in_ok-child.ensures.pass in
    let n = c.pass-mine.ensures.given.0 in
    let v = c.args.pass.now.view in
    let end = c.join-theirs.result.0.view in
    let ran = job_as c.in_ok-child.child.promise.buffer.value.capacity c.in-Some.prepared.buffer.capacity c.in_ok-child.child.promise.steps.value.items c.in-Some.prepared.steps.items c.join-theirs.result.1.items c.in_ok-child.child.promise.pass.value.view (new_pass v n) end (ap (λ b. b.capacity) buffer) (ap (λ s. s.items) steps) (ap (λ p. p.view) start ∙ c.pass-mine.ensures.given.1) c.join-theirs.ensures.1 in
    let kept = c.fan_out-rest.ensures.fanned in
    fan_err g.M.Machine.goes v c.pass-mine.new.pass.view c.fan_out-rest.new.pass.view end c.end.new.pass.view kept.0 c.pass-mine.ensures.half kept.1 c.end.ensures.seen (none_ended c.in-Some.prepared.buffer.capacity c.in-Some.prepared.steps.items c.join-theirs.result.1.items v end n ran)

pub push_reserved-requires : goal.push_reserved-requires
push_reserved-requires g t c =
    let kept = c.in_default-rest.ensures.fanned in
    let below = fan_fits PreparedJobWentAs c.args.jobs.items c.pop.new.self.items c.in-Some.prepared c.fan_out-rest.new.all.items kept.0 c.in-Some.ensures.items kept.2 _ _ c.requires.capacity.1 c.fan_out-rest.ensures.capacity in
    omega (arith, below, c.fan_out-rest.new.all.ok.0)

pub returns-clause-fanned : goal.returns-clause-fanned
returns-clause-fanned g t c =
    let buffer = c.in_ok-child.ensures.buffer in
    let steps = c.in_ok-child.ensures.steps in
    let start = c.in_ok-child.ensures.pass in
    let n = c.pass-mine.ensures.given.0 in
    let v = c.args.pass.now.view in
    let end = c.join-theirs.result.0.view in
    let ran = job_as c.in_ok-child.child.promise.buffer.value.capacity c.in-Some.prepared.buffer.capacity c.in_ok-child.child.promise.steps.value.items c.in-Some.prepared.steps.items c.join-theirs.result.1.items c.in_ok-child.child.promise.pass.value.view (new_pass v n) end (ap (λ b. b.capacity) buffer) (ap (λ s. s.items) steps) (ap (λ p. p.view) start ∙ c.pass-mine.ensures.given.1) c.join-theirs.ensures.1 in
    let kept = c.in_default-rest.ensures.fanned in
    rw (c.in-Some.ensures.items, c.push_reserved.ensures.items)
    (fan_more PreparedJobWentAs g.M.Machine.goes v c.pass-mine.new.pass.view c.fan_out-rest.new.pass.view end c.end.new.pass.view c.pop.new.self.items c.in-Some.prepared c.fan_out-rest.new.all.items c.join-theirs.result.1 kept.0 c.pass-mine.ensures.half kept.1 kept.2 c.end.ensures.seen
    (none_ended c.in-Some.prepared.buffer.capacity c.in-Some.prepared.steps.items c.join-theirs.result.1.items v end n ran) (ran_as c.in-Some.prepared.buffer.capacity c.in-Some.prepared.steps.items c.join-theirs.result.1.items v end n ran))
