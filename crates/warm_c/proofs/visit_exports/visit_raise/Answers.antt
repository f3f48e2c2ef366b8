use Rattle.std.proofs.Common.{rules, Ok, to_z, of_z, w32}
use Rattle.warm_visits.specs.Visits.{raise_visit}
use Rattle.warm_c.specs.Handles.{Surely}
use Rattle.warm_c_calls.specs.Visits.{BeginsVisit}
use Rattle.warm_c.proofs.HandleLemmas.{called}
use Rattle.warm_c.proofs.visit_exports.visit_raise.Goals as goal

pub returns : goal.returns
returns c =
    called (Surely (BeginsVisit (λ id n. raise_visit id n c.args.time))) c.args.handle.now.held.visit c.put_back.new.handle.held.visit (to_z w32 (of_z w32 c.put_back.result))
    c.deref_mut.result.now c.raise.new.self (Ok tt) (search rules) (search rules) c.raise.ensures (search rules)
