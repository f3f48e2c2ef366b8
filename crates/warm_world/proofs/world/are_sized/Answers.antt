use Rattle.std.proofs.Common.{refl, sym, arith}
use Rattle.warm_world.proofs.ReplicaOpeningLemmas.{sized_all, sized_at, sized_more, sized_slice}
use Rattle.warm_world.proofs.world.are_sized.Goals as goal

pub loop-list-init : goal.loop-list-init
loop-list-init g c = λ k low. absurd (omega (arith, low))

pub loop-list-preserved : goal.loop-list-preserved
loop-list-preserved g c =
    sized_more _ _ _ _ c.list-item.result c.loop-list-test.true c.list-item.is (sized_slice _ _ _ _ c.deref.ensures.value (c.all_sized.ensures.0 c.if-not-all_sized.false)) c.loop-list.invariant

pub returns-then-not-all_sized : goal.returns-then-not-all_sized
returns-then-not-all_sized g c = (
  λ h. absurd (cc),
  λ all. let never = c.if-not-all_sized.ensures.1 (sized_slice _ _ _ _ (sym c.deref.ensures.value) (sized_at _ _ _ _ c.list-item.result c.loop-list-test.true c.list-item.is all)) in absurd (cc),
)

pub returns : goal.returns
returns g c = (λ _. sized_all _ _ _ _ c.loop-list.invariant (omega (arith, c.loop-list-test.false)), λ _. refl)
