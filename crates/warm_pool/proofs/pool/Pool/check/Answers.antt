use Rattle.std.proofs.Common.{refl, arith}
use Rattle.std.proofs.lemmas.List.{length-map}
use Rattle.warm_pool.proofs.FrameChoiceLemmas.{seen_has, seen_pages, has_device, has_number}
use Rattle.warm_pool.proofs.pool.Pool.check.Goals as goal

pub returns-then-device-len-clause-unknown : goal.returns-then-device-len-clause-unknown
returns-then-device-len-clause-unknown g c = rw (← c.self.view_is) (λ has. let there = rw length-map at (has_device c.self.invariant c.args.page has) in omega arith)

pub returns-then-device-len-clause-load : goal.returns-then-device-len-clause-load
returns-then-device-len-clause-load g c = rw (← c.self.view_is) (λ h. (simp length-map (omega arith), refl))

pub returns-then-device-len-clause-pin : goal.returns-then-device-len-clause-pin
returns-then-device-len-clause-pin g c = rw (← c.self.view_is) (λ h. (simp length-map (omega arith), refl))

pub returns-then-page-pages_of-clause-unknown : goal.returns-then-page-pages_of-clause-unknown
returns-then-page-pages_of-clause-unknown g c = rw (← c.self.view_is) (λ has. let number = has_number c.self.invariant c.args.page has in omega (arith, rw c.deref.ensures.value at c.pages_of.ensures))

pub returns-then-page-pages_of-clause-load : goal.returns-then-page-pages_of-clause-load
returns-then-page-pages_of-clause-load g c = rw (← c.self.view_is) (λ h. (simp length-map (omega arith), seen_pages c.self.invariant c.args.page (omega (arith, rw c.deref.ensures.value at c.pages_of.ensures)), refl))

pub returns-then-page-pages_of-clause-pin : goal.returns-then-page-pages_of-clause-pin
returns-then-page-pages_of-clause-pin g c = rw (← c.self.view_is) (λ h. (simp length-map (omega arith), seen_pages c.self.invariant c.args.page (omega (arith, rw c.deref.ensures.value at c.pages_of.ensures)), refl))

pub returns-clause-known : goal.returns-clause-known
returns-clause-known g c = rw (← c.self.view_is) (seen_has c.self.invariant c.args.page (rw length-map (omega arith)) (omega (arith, rw c.deref.ensures.value at c.pages_of.ensures)))
