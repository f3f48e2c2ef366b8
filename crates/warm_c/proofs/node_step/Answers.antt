use Rattle.std.proofs.Common.{rules, refl, Ok, Err, to_z, of_z, w32}
use Rattle.warm_c_calls.specs.Calls.{StepsWarmUp}
use Rattle.warm_c.proofs.HandleLemmas.{called}
use Rattle.warm_c.proofs.node_step.Goals as goal

pub returns-in-Ok-clause-called : goal.returns-in-Ok-clause-called
returns-in-Ok-clause-called c =
    called (StepsWarmUp c.args.found.now c.args.page.now c.put_page.new.found c.put_page.new.page) c.args.handle.now.held.node c.put_back.new.handle.held.node
    (to_z w32 (of_z w32 c.put_back.result)) c.deref_mut.result.now c.step.new.self (Ok tt) (search rules) (search rules)
    (c.in-Ok.loaded, c.in-Ok.ensures.loaded, c.put_page.ensures) (search rules)

pub returns-in-Err-clause-called : goal.returns-in-Err-clause-called
returns-in-Err-clause-called c =
    called (StepsWarmUp c.args.found.now c.args.page.now c.args.found.now c.args.page.now) c.args.handle.now.held.node c.put_back-in-Err.new.handle.held.node
    (to_z w32 (of_z w32 c.put_back-in-Err.result)) c.deref_mut.result.now c.step.new.self (Err c.in-Err.why) (search rules) (search rules)
    (c.in-Err.ensures.refused, refl, refl) (search rules)
