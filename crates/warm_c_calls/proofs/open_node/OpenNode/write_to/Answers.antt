use Rattle.warm_c_calls.proofs.open_node.OpenNode.write_to.Goals as goal

pub returns-clause-written : goal.returns-clause-written
returns-clause-written g c = rw (c.id.ensures, c.history.ensures) at c.in_ok-write_dump.ensures.written
