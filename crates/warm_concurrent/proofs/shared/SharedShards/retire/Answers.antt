use Rattle.warm_concurrent.proofs.shared.SharedShards.retire.Goals as goal

pub returns-clause-retired : goal.returns-clause-retired
returns-clause-retired g c = (g.D.PageDevice.state c.in_ok-was.was', c.in_ok-was.ensures.replaced)
