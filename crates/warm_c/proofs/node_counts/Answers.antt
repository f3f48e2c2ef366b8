use Rattle.std.proofs.Common.{rules, Ok, to_z, of_z, w32}
use Rattle.warm_c_calls.specs.CountCalls.{CountsPool}
use Rattle.warm_c.specs.Handles.{Surely}
use Rattle.warm_c.proofs.HandleLemmas.{called}
use Rattle.warm_c.proofs.node_counts.Goals as goal

pub returns-clause-called : goal.returns-clause-called
returns-clause-called c =
    called (Surely (CountsPool c.counts.result)) c.args.handle.now.held.node c.put_back.new.handle.held.node (to_z w32 (of_z w32 c.put_back.result))
    c.deref.result.now c.deref.result.now (Ok tt) (search rules) (search rules) c.counts.ensures (search rules)
