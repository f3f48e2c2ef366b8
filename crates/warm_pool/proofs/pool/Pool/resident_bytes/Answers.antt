use Rattle.std.proofs.Common.{sym, subst}
use Rattle.warm_pool.specs.Pinning.{CanPinAgain}
use Rattle.warm_pool.proofs.WriteLemmas.{lent_at}
use Rattle.warm_pool.proofs.pool.Pool.resident_bytes.Goals as goal

pub returns : goal.returns
returns g c =
    let can = subst (λ s. CanPinAgain s c.args._page c.args.slot) (sym c.self.view_is) c.requires.can in
    rw (← c.self.view_is) (lent_at c.self.invariant c.args._page c.args.slot can.there can.holds _ c.bytes.ensures)
