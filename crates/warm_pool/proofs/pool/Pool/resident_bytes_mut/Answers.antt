use Rattle.std.proofs.Common.{ap, refl, subst, sym}
use Rattle.warm_pool.specs.View.{view_of}
use Rattle.warm_pool.specs.PageBytes.{IsLent}
use Rattle.warm_pool.specs.Lending.{relent_pool}
use Rattle.warm_pool.specs.Pinning.{CanPinAgain}
use Rattle.warm_pool.proofs.UndonePinLemmas.{relent_is_pool}
use Rattle.warm_pool.proofs.WriteLemmas.{lent_at}
use Rattle.warm_pool.proofs.pool.Pool.resident_bytes_mut.Goals as goal

pub invariant_of-self-lent : goal.invariant_of-self-lent
invariant_of-self-lent g c = λ w.
    relent_is_pool c.self.invariant c.args._page c.args.slot (subst (λ s. CanPinAgain s c.args._page c.args.slot) (sym c.self.view_is) c.requires.can) w

pub returns : goal.returns
returns g c =
    let can = subst (λ s. CanPinAgain s c.args._page c.args.slot) (sym c.self.view_is) c.requires.can in (
      (refl, λ w. ap (λ s. relent_pool s c.args.slot.index w) c.self.view_is),
      record {
        writes_back = tt;
        lent = subst (λ s. IsLent (view_of s) c.args.slot c.bytes_mut.result.now) c.self.view_is
            (lent_at c.self.invariant c.args._page c.args.slot can.there can.holds _ c.bytes_mut.ensures.bytes);
      },
    )
