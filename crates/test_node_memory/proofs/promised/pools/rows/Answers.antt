use Rattle.test_node_memory.proofs.promised.pools.rows.Goals as goal

pub ranked-requires : goal.ranked-requires
ranked-requires g c = c.requires c.args.history.now
