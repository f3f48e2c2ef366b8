use Rattle.std.proofs.Common.{inl, refl}
use Rattle.warm_pool.proofs.FrameChoiceLemmas.{seen_free, free_there, free_unfixed, seen_full, seen_place, least_if, least_there, least_unfixed}
use Rattle.warm_pool.proofs.pool.Pool.frame_to_load.Goals as goal

pub returns-in-Some : goal.returns-in-Some
returns-in-Some g c = rw (← c.self.view_is) (record {
  same = refl;
  to_load = λ h r. inl (seen_free c.self.invariant _ c.in-Some.ensures);
  there = free_there c.self.invariant _ c.in-Some.ensures;
  unfixed = free_unfixed c.self.invariant _ c.in-Some.ensures;
})

pub returns-in-None-clause-to_load : goal.returns-in-None-clause-to_load
returns-in-None-clause-to_load g c = rw (← c.self.view_is) (seen_place c.self.invariant (seen_full c.self.invariant c.in-None.ensures) _ c.least.ensures.least)

pub returns-in-None-clause-there : goal.returns-in-None-clause-there
returns-in-None-clause-there g c = rw (← c.self.view_is) (least_if _ _ (least_there c.self.invariant) _ c.least.ensures.least)

pub returns-in-None-clause-unfixed : goal.returns-in-None-clause-unfixed
returns-in-None-clause-unfixed g c = rw (← c.self.view_is) (least_if _ _ (least_unfixed c.self.invariant) _ c.least.ensures.least)
