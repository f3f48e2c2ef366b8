use Rattle.std.proofs.Common.{◌∙◌, refl}
use Rattle.warm_pool.proofs.PoolLemmas.{step_pool, step_ranked, step_view, seen_holds, held_there, held_fixed, held_some, alike_fixes, seen_unpinned}
use Rattle.warm_pool.proofs.UnchangedLemmas.{step_kept}
use Rattle.warm_pool.proofs.pool.Pool.unpin.Goals as goal

pub unfix-requires-clause-there : goal.unfix-requires-clause-there
unfix-requires-clause-there g c = held_there c.self.invariant _ (seen_holds c.self.view_is c.requires.holds)

pub unfix-requires-clause-held : goal.unfix-requires-clause-held
unfix-requires-clause-held g c = held_some c.self.invariant _ (seen_holds c.self.view_is c.requires.holds)

pub unfix-requires-clause-fixed : goal.unfix-requires-clause-fixed
unfix-requires-clause-fixed g c = held_fixed c.self.invariant _ (seen_holds c.self.view_is c.requires.holds)

pub invariant_of-self : goal.invariant_of-self
invariant_of-self g c =
    step_pool c.self.inside.frames c.unfix.new.self c.self.invariant c.args.slot.index _ c.unfix.ensures (held_there c.self.invariant _ (seen_holds c.self.view_is c.requires.holds))
    (alike_fixes c.self.invariant _ _ (held_some c.self.invariant _ (seen_holds c.self.view_is c.requires.holds)))

pub returns : goal.returns
returns g c =
    let there = held_there c.self.invariant _ (seen_holds c.self.view_is c.requires.holds) in
    let alike = alike_fixes c.self.invariant _ _ (held_some c.self.invariant _ (seen_holds c.self.view_is c.requires.holds)) in
    rw (← c.self.view_is) (record {
      ranked = step_ranked c.self.inside.frames c.unfix.new.self c.self.invariant c.args.slot.index _ c.unfix.ensures there alike refl;
      unpinned = step_view c.self.inside.frames c.unfix.new.self c.self.invariant c.args.slot.index _ c.unfix.ensures there alike ∙ seen_unpinned c.self.invariant c.args.slot;
      kept = step_kept c.self.inside.frames c.unfix.new.self c.args.slot.index _ c.unfix.ensures there refl refl;
    })
