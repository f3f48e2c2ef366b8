use Rattle.std.proofs.Common.{◌≢◌, ◌<◌, length, None, ◌∙◌, ap, refl, sym, subst, arith}
use Rattle.warm_frame_table.specs.Frames.{nth_frame}
use Rattle.warm_pool.proofs.PoolLemmas.{step_pool, step_ranked, step_view, step_holds, alike_fixes, seen_fixed}
use Rattle.warm_pool.proofs.PinLemmas.{fixed_slot}
use Rattle.warm_pool.proofs.FrameChoiceLemmas.{slot_seen, seen_there, seen_generation, seen_fixes, seen_page}
use Rattle.warm_pool.proofs.pool.Pool.add_fix.Goals as goal

pub invariant_of-self : goal.invariant_of-self
invariant_of-self g c = (step_pool c.self.inside.frames c.fix.new.self c.self.invariant c.args.at _ c.fix.ensures (subst (λ s. c.args.at < length s.frames) (sym c.self.view_is) c.requires.there) (alike_fixes c.self.invariant _ _ (subst (λ s. (nth_frame s.frames c.args.at).page ≢ None) (sym c.self.view_is) c.requires.held)))

pub returns-then-fixes-lt4294967295-clause-ranked : goal.returns-then-fixes-lt4294967295-clause-ranked
returns-then-fixes-lt4294967295-clause-ranked g c = rw (← c.self.view_is) (step_ranked c.self.inside.frames c.fix.new.self c.self.invariant c.args.at _ c.fix.ensures (subst (λ s. c.args.at < length s.frames) (sym c.self.view_is) c.requires.there) (alike_fixes c.self.invariant _ _ (subst (λ s. (nth_frame s.frames c.args.at).page ≢ None) (sym c.self.view_is) c.requires.held)) refl)

pub returns-then-fixes-lt4294967295-clause-fixed : goal.returns-then-fixes-lt4294967295-clause-fixed
returns-then-fixes-lt4294967295-clause-fixed g c = rw (← c.self.view_is) (λ p e. fixed_slot _ c.args.at c.self.view_is c.slot_at-slot.ensures p (record { there = seen_there c.self.invariant c.args.at (subst (λ s. c.args.at < length s.frames) (sym c.self.view_is) c.requires.there); resident = seen_page c.self.invariant c.args.at p e; below = subst (λ n. n < 4294967295) (seen_fixes c.self.invariant c.args.at c.fixes.ensures) c.if-fixes-lt4294967295.true; current = seen_generation c.self.invariant c.args.at refl; becomes = step_view c.self.inside.frames c.fix.new.self c.self.invariant c.args.at _ c.fix.ensures (subst (λ s. c.args.at < length s.frames) (sym c.self.view_is) c.requires.there) (alike_fixes c.self.invariant _ _ (subst (λ s. (nth_frame s.frames c.args.at).page ≢ None) (sym c.self.view_is) c.requires.held)) ∙ seen_fixed c.self.invariant c.args.at }))

pub returns-then-fixes-lt4294967295-clause-holds : goal.returns-then-fixes-lt4294967295-clause-holds
returns-then-fixes-lt4294967295-clause-holds g c = (step_holds c.self.inside.frames c.fix.new.self c.self.invariant c.args.at _ c.fix.ensures (subst (λ s. c.args.at < length s.frames) (sym c.self.view_is) c.requires.there) (alike_fixes c.self.invariant _ _ (subst (λ s. (nth_frame s.frames c.args.at).page ≢ None) (sym c.self.view_is) c.requires.held)) _ (ap (λ x. x.index) c.slot_at-slot.ensures) (ap (λ x. x.generation) (slot_seen c.args.at c.self.view_is c.slot_at-slot.ensures)) (omega arith))
