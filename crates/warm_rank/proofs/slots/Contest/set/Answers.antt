use Rattle.warm_rank.proofs.slots.Contest.set.Goals as goal

pub play_above-requires-clause-changed : goal.play_above-requires-clause-changed
play_above-requires-clause-changed c = (c.self.inside.keys, c.args.key, c.self.invariant, c.set.ensures)
