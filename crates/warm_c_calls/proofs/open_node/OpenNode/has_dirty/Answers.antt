use Rattle.warm_c_calls.proofs.open_node.OpenNode.has_dirty.Goals as goal

pub returns : goal.returns
returns c = rw c.page.ensures at rw c.pool.ensures at c.has_dirty.ensures
