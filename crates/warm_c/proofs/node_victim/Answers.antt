use Rattle.std.proofs.Common.{rules, Ok, to_z, of_z, w32}
use Rattle.warm_c_calls.specs.Calls.{Names}
use Rattle.warm_c.specs.Handles.{Surely}
use Rattle.warm_c.proofs.HandleLemmas.{called}
use Rattle.warm_c.proofs.node_victim.Goals as goal

pub returns-clause-called : goal.returns-clause-called
returns-clause-called c =
    called (Surely (Names c.args.page.now c.put_page.new.found c.put_page.new.page)) c.args.handle.now.held.node c.put_back.new.handle.held.node
    (to_z w32 (of_z w32 c.put_back.result)) c.deref_mut.result.now c.victim.new.self (Ok tt) (search rules) (search rules)
    (c.victim.result, c.victim.ensures, c.put_page.ensures) (search rules)
