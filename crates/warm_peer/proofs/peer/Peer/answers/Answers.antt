use Rattle.warm_peer.proofs.peer.Peer.answers.Goals as goal

pub returns-in_ok-messages-in-Digest-clause-answers : goal.returns-in_ok-messages-in-Digest-clause-answers
returns-in_ok-messages-in-Digest-clause-answers c = rw (← c.self.view_is, c.in-Digest.is, c.of-in-Digest.ensures) c.in_ok-messages-in-Digest.ensures.answer
