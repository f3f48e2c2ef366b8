use Rattle.std.proofs.Common.{refl}
use Rattle.std.proofs.lemmas.Result.{err_from_is_err_and}
use Rattle.warm_gossip.proofs.node.Node.pin_zeroed.Goals as goal

pub returns-in_err-slot : goal.returns-in_err-slot
returns-in_err-slot g c =
    let given = err_from_is_err_and c.from_residual.result c.from_residual.ensures.1 in
    rw (given.1, given.2, ← c.self.view_is) (record { known = record { id = refl; history = refl }; done = tt; refused = rw c.history.ensures at c.in_err-slot.ensures.refused })

pub returns : goal.returns
returns g c = rw (← c.self.view_is) (record { known = record { id = refl; history = refl }; done = rw c.history.ensures at c.in_ok-slot.ensures.done; refused = tt })
