use Rattle.std.proofs.Common.{rules}
use Rattle.warm_replica.proofs.BatchLemmas.{not_taken}
use Rattle.warm_replica.proofs.worker.Worker.flush.Goals as goal

pub returns : goal.returns
returns g c = let refused = not_taken g.M.Machine.goes g.met.M.BatchMachine.absorbs c.self.inside.pass.view c.call.new.pass.view c.in_ok-batch.batch c.in_ok-reply.reply c.in_ok-reply.ensures.called c.in_default.not-Done in search rules
