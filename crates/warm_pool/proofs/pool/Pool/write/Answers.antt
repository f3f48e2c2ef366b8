use Rattle.std.proofs.Common.{◌+◌, ◌≤◌, length, refl, sym, subst}
use Rattle.warm_pool.proofs.PoolLemmas.{seen_holds, held_there, held_some}
use Rattle.warm_pool.proofs.WriteLemmas.{write_dirty, write_pool, write_ranked, write_view}
use Rattle.warm_pool.proofs.pool.Pool.write.Goals as goal

pub invariant_of-self : goal.invariant_of-self
invariant_of-self g c = (write_pool c.self.inside.frames c.patch.new.self c.self.invariant c.args.slot.index c.args.at c.args.bytes.now c.patch.ensures (held_there c.self.invariant _ (seen_holds c.self.view_is c.requires.holds)) (held_some c.self.invariant _ (seen_holds c.self.view_is c.requires.holds)) (subst (λ s. c.args.at + length c.args.bytes.now ≤ s.page_size) (sym c.self.view_is) (c.is_within.ensures.0 c.if-not-is_within.false)))

pub returns-clause-ranked : goal.returns-clause-ranked
returns-clause-ranked g c = rw (← c.self.view_is) (λ h ranked. write_ranked c.self.inside.frames c.patch.new.self c.self.invariant c.args.slot.index c.args.at c.args.bytes.now c.patch.ensures (held_there c.self.invariant _ (seen_holds c.self.view_is c.requires.holds)) (held_some c.self.invariant _ (seen_holds c.self.view_is c.requires.holds)) (subst (λ s. c.args.at + length c.args.bytes.now ≤ s.page_size) (sym c.self.view_is) (c.is_within.ensures.0 c.if-not-is_within.false)) h ranked)

pub patch-requires-clause-there : goal.patch-requires-clause-there
patch-requires-clause-there g c = held_there c.self.invariant _ (seen_holds c.self.view_is c.requires.holds)

pub returns-clause-done : goal.returns-clause-done
returns-clause-done g c =
    let there = held_there c.self.invariant _ (seen_holds c.self.view_is c.requires.holds) in
    let some = held_some c.self.invariant _ (seen_holds c.self.view_is c.requires.holds) in
    let within = subst (λ s. c.args.at + length c.args.bytes.now ≤ s.page_size) (sym c.self.view_is) (c.is_within.ensures.0 c.if-not-is_within.false) in
    rw (← c.self.view_is) (record {
      written = write_view c.self.inside.frames c.patch.new.self c.self.invariant c.args.slot.index c.args.at c.args.bytes.now c.patch.ensures there some within c.args.slot refl;
      dirty = write_dirty c.self.inside.frames c.patch.new.self c.self.invariant c.args.slot.index c.args.at c.args.bytes.now c.patch.ensures there some within c.args.slot refl;
    })
