use Rattle.benches.proofs.pool.visit.Goals as goal

pub returns : goal.returns
returns c = c.unpin.ensures.ranked c.args.history.now (c.write.ensures.ranked c.args.history.now c.pin.ensures.ranked)
