use Rattle.std.proofs.Common.{rules, Ok, Err, to_z, of_z, w32}
use Rattle.warm_c_calls.specs.FilledPins.{NamesNext}
use Rattle.warm_c.proofs.HandleLemmas.{called}
use Rattle.warm_c_calls.proofs.FilledPinLemmas.{next_refused}
use Rattle.warm_c.proofs.node_next.Goals as goal

pub returns-in-Ok-clause-called : goal.returns-in-Ok-clause-called
returns-in-Ok-clause-called c =
    called (NamesNext c.args.found.now c.args.page.now c.put_page.new.found c.put_page.new.page) c.args.handle.now.held.node c.put_back.new.handle.held.node
    (to_z w32 (of_z w32 c.put_back.result)) c.deref_mut.result.now c.next.new.self (Ok tt) (search rules) (search rules)
    (c.in-Ok.next, c.in-Ok.ensures.next, c.put_page.ensures, c.next.ensures.same) (search rules)

pub returns-in-Err-clause-called : goal.returns-in-Err-clause-called
returns-in-Err-clause-called c =
    called (NamesNext c.args.found.now c.args.page.now c.args.found.now c.args.page.now) c.args.handle.now.held.node c.put_back-in-Err.new.handle.held.node
    (to_z w32 (of_z w32 c.put_back-in-Err.result)) c.deref_mut.result.now c.next.new.self (Err c.in-Err.why) (search rules) (search rules)
    (next_refused c.args.found.now c.args.page.now _ _ c.in-Err.why c.in-Err.ensures.refused c.next.ensures.same) (search rules)
