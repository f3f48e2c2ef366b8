use Rattle.std.proofs.Common.{ap, refl, subst}
use Rattle.warm_pool.specs.View.{view_of}
use Rattle.warm_pool.specs.PageBytes.{IsLent}
use Rattle.warm_pool.specs.Lending.{relent_pool}
use Rattle.warm_pool.proofs.PoolLemmas.{seen_holds, held_there, held_some}
use Rattle.warm_pool.proofs.WriteLemmas.{lent_seen}
use Rattle.warm_pool.proofs.LendingLemmas.{lent_pool}
use Rattle.warm_pool.proofs.pool.Pool.bytes_mut.Goals as goal

pub invariant_of-self-lent : goal.invariant_of-self-lent
invariant_of-self-lent g c = λ w.
    lent_pool c.self.inside.frames c.self.invariant c.args.slot.index (held_there c.self.invariant _ (seen_holds c.self.view_is c.requires.holds)) (held_some c.self.invariant _ (seen_holds c.self.view_is c.requires.holds)) w

pub returns : goal.returns
returns g c = (
  (refl, λ w. ap (λ s. relent_pool s c.args.slot.index w) c.self.view_is),
  record {
    writes_back = tt;
    lent = subst (λ s. IsLent (view_of s) c.args.slot c.bytes_mut.result.now) c.self.view_is
        (lent_seen c.self.invariant c.args.slot (seen_holds c.self.view_is c.requires.holds) _ c.bytes_mut.ensures.bytes);
  },
)
