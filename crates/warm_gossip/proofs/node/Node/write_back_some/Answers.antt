use Rattle.std.proofs.Common.{refl}
use Rattle.std.proofs.lemmas.Result.{err_from_is_err_and}
use Rattle.warm_gossip.proofs.node.Node.write_back_some.Goals as goal

pub returns-clause-ranked : goal.returns-clause-ranked
returns-clause-ranked g c = rw (← c.self.view_is) c.write_back_some.ensures.ranked

pub returns-in_err-left-clause-asked : goal.returns-in_err-left-clause-asked
returns-in_err-left-clause-asked g c =
    let given = err_from_is_err_and c.from_residual.result c.from_residual.ensures.1 in
    rw (given.1, given.2, ← c.self.view_is) (record { known = record { id = refl; history = refl }; done = tt; refused = c.in_err-left.ensures.refused })

pub returns-clause-asked : goal.returns-clause-asked
returns-clause-asked g c = rw (← c.self.view_is) (record { known = record { id = refl; history = refl }; done = c.in_ok-left.ensures.done; refused = tt })
