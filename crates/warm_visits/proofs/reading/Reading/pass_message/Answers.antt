use Rattle.warm_visits.proofs.reading.Reading.pass_message.Goals as goal

pub invariant_of-self : goal.invariant_of-self
invariant_of-self c = c.pass_in.ensures.reading c.self.inside.count c.self.invariant
