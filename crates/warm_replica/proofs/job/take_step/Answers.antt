use Rattle.warm_replica.proofs.StepLemmas.{touched, was_flushed, was_full, was_kept, was_spent}
use Rattle.warm_replica.proofs.job.take_step.Goals as goal

pub returns-in-Ok-clause-went : goal.returns-in-Ok-clause-went
returns-in-Ok-clause-went g c =
    let e = c.touch.ensures in
    touched c.args.worker.now c.touch.new.self c.args.step c.in-Touch.reference c.touch.result c.in-Ok.field-0 c.in-Touch.is c.in-Ok.is e.pass e.taken e.full

pub returns-in-Err-clause-went : goal.returns-in-Err-clause-went
returns-in-Err-clause-went g c =
    let e = c.touch.ensures in
    was_full c.args.worker.now c.touch.new.self c.args.step c.in-Touch.reference c.touch.result c.in-Err.field-0 c.in-Touch.is c.in-Err.is e.pass e.taken e.full

pub returns-in-Ok-flush-clause-went : goal.returns-in-Ok-flush-clause-went
returns-in-Ok-flush-clause-went g c = was_flushed c.args.worker.now c.flush.new.self c.args.step g.M.Machine.goes c.in-Flush.is c.in-Ok-flush.ensures.flushed

pub returns-in-Err-flush-clause-went : goal.returns-in-Err-flush-clause-went
returns-in-Err-flush-clause-went g c = was_kept c.args.worker.now c.flush.new.self c.args.step g.M.Machine.goes c.in-Err-flush.fault c.in-Flush.is c.in-Err-flush.ensures.kept

pub returns-in-Err-call-clause-went : goal.returns-in-Err-call-clause-went
returns-in-Err-call-clause-went g c = was_spent c.args.worker.now c.call.new.self c.args.step c.in-Call.boxed c.in-Call.is c.in-Err-call.ensures.buffer c.in-Err-call.ensures.spent
