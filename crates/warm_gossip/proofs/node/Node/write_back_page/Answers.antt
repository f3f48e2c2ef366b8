use Rattle.std.proofs.Common.{refl}
use Rattle.std.proofs.lemmas.Result.{err_from_is_err_and}
use Rattle.warm_gossip.proofs.node.Node.write_back_page.Goals as goal

pub returns-clause-ranked : goal.returns-clause-ranked
returns-clause-ranked g c = rw (← c.self.view_is) c.write_back_page.ensures.ranked

pub returns-in_err-was_dirty-clause-asked : goal.returns-in_err-was_dirty-clause-asked
returns-in_err-was_dirty-clause-asked g c =
    let given = err_from_is_err_and c.from_residual.result c.from_residual.ensures.1 in
    rw (given.1, given.2, ← c.self.view_is) (record { known = record { id = refl; history = refl }; done = tt; refused = c.in_err-was_dirty.ensures.refused })

pub returns-clause-asked : goal.returns-clause-asked
returns-clause-asked g c = rw (← c.self.view_is) (record { known = record { id = refl; history = refl }; done = c.in_ok-was_dirty.ensures.done; refused = tt })
