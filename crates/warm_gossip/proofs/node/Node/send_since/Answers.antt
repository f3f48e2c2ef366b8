use Rattle.warm_gossip.proofs.node.Node.send_since.Goals as goal

pub returns-clause-held : goal.returns-clause-held
returns-clause-held g c = rw (← c.self.view_is) c.in_ok-portion.ensures.held
