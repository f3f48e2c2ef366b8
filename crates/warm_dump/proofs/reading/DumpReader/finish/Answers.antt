use Rattle.warm_dump.proofs.ReadLemmas.{ended_short}
use Rattle.warm_dump.proofs.reading.DumpReader.finish.Goals as goal

pub returns-then-not-complete-clause-cut : goal.returns-then-not-complete-clause-cut
returns-then-not-complete-clause-cut c = λ seen read. ended_short seen c.args.self c.if-not-complete.true read
