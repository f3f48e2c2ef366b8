use Rattle.std.proofs.Common.{rules, to_z, of_z, w32, Ok, refl}
use Rattle.warm_c.specs.Handles.{Surely}
use Rattle.warm_c_calls.specs.Visits.{SaysKept}
use Rattle.warm_c.proofs.HandleLemmas.{called}
use Rattle.warm_c.proofs.visit_exports.visit_kept.Goals as goal

pub returns-clause-called : goal.returns-clause-called
returns-clause-called c =
    called (Surely (SaysKept c.args.horizon.now c.kept.new.horizon)) c.args.handle.now.held.visit c.put_back.new.handle.held.visit
    (to_z w32 (of_z w32 c.put_back.result)) c.deref.result.now c.deref.result.now (Ok tt) (search rules) (search rules) c.kept.ensures (search rules)
