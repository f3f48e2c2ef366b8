use Rattle.std.proofs.Common.{◌∙◌, length, arith, ap, refl, rules, sym, subst}
use Rattle.std.proofs.lemmas.List.{length-map}
use Rattle.warm_frame_table.specs.declared.selection.Devices.TheVariants.{One}
use Rattle.warm_pool.specs.steps.Retiring.{AreUnfixed}
use Rattle.warm_pool.proofs.FlushLemmas.{handed_on}
use Rattle.warm_pool.proofs.FrameChoiceLemmas.{of_err}
use Rattle.warm_pool.proofs.RetireLemmas.{fixed_on, may_retire}
use Rattle.warm_pool.specs.declared.fault.PoolFault.TheVariants.{Fault}
use Rattle.warm_pool.proofs.pool.Pool.prepare_retire.Goals as goal

pub returns-in_err-map_err-clause-refused : goal.returns-in_err-map_err-clause-refused
returns-in_err-map_err-clause-refused g c = handed_on c.from_residual.result Fault _ (search rules) (λ device size.
    let there = ap (λ s. length s.devices) (sym c.self.view_is) in (
      may_retire c.args.self.now c.args.dev device (rw there (rw length-map (omega arith)))
          (size ∙ c.if-page_size.false ∙ c.page_size.ensures ∙ ap (λ s. s.page_size) c.self.view_is)
          (subst (λ s. AreUnfixed (One c.args.dev) s.frames) c.self.view_is c.if-is_fixed.ensures),
      of_err c.settle_device.result c.in_err-map_err.ensures.variant c.settle_device.ensures.stopped,
    ))

pub returns-then-dev-len-clause-refused : goal.returns-then-dev-len-clause-refused
returns-then-dev-len-clause-refused g c = rw (← c.self.view_is) (λ device size. (simp length-map (omega arith), refl))

pub returns-then-page_size-clause-refused : goal.returns-then-page_size-clause-refused
returns-then-page_size-clause-refused g c = rw (← c.self.view_is) (λ device size.
    (simp length-map (omega arith), (λ same. c.if-page_size.true (sym size ∙ same ∙ sym c.page_size.ensures)), refl))

pub returns-then-is_fixed-clause-refused : goal.returns-then-is_fixed-clause-refused
returns-then-is_fixed-clause-refused g c = rw (← c.self.view_is) (λ device size.
    (simp length-map (omega arith), size ∙ c.if-page_size.false ∙ c.page_size.ensures, fixed_on _ c.args.dev c.self.invariant c.if-is_fixed.ensures, refl))

pub returns-in_err-map_err-clause-stopped : goal.returns-in_err-map_err-clause-stopped
returns-in_err-map_err-clause-stopped g c = handed_on c.from_residual.result Fault _ (search rules) (λ _.
    of_err c.settle_device.result c.in_err-map_err.ensures.variant c.settle_device.ensures.left)

pub returns-in_err-map_err-clause-unchanged : goal.returns-in_err-map_err-clause-unchanged
returns-in_err-map_err-clause-unchanged g c = handed_on c.from_residual.result Fault _ (search rules) (λ isnt. absurd (isnt refl))
