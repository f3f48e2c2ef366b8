use Rattle.warm_c_calls.proofs.open_visit.OpenVisit.write_to.Goals as goal

pub returns-clause-written : goal.returns-clause-written
returns-clause-written g c = rw c.id.ensures at c.in_ok-write_dump.ensures.written
