use Rattle.std.proofs.Common.{rules, Ok, refl, to_z, of_z, w32}
use Rattle.warm_c_calls.specs.Engine.{NamesDirty}
use Rattle.warm_c.specs.Handles.{Surely}
use Rattle.warm_c.proofs.HandleLemmas.{called}
use Rattle.warm_c.proofs.node_next_dirty.Goals as goal

pub returns-clause-called : goal.returns-clause-called
returns-clause-called c =
    called (Surely (NamesDirty c.args.from c.args.frame.now c.args.page.now c.put_dirty.new.found c.put_dirty.new.frame c.put_dirty.new.page)) c.args.handle.now.held.node
    c.put_back.new.handle.held.node (to_z w32 (of_z w32 c.put_back.result)) c.deref.result.now c.deref.result.now (Ok tt) (search rules) (search rules)
    (c.next_dirty.result, c.next_dirty.ensures, c.put_dirty.ensures, refl) (search rules)
