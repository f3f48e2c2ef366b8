use Rattle.std.proofs.Common.{[], refl, arith}
use Rattle.std.proofs.lemmas.List.{length-map}
use Rattle.warm_frame_table.specs.declared.selection.Devices.TheVariants.{PagesFrom}
use Rattle.warm_pool.proofs.ForgetLemmas.{forget_pool, forget_ranked, pool_forgets, fixed_from}
use Rattle.warm_pool.proofs.pool.Pool.forget_pages.Goals as goal

pub invariant_of-self : goal.invariant_of-self
invariant_of-self g c = forget_pool (PagesFrom c.args.dev c.args.from) c.self.inside.frames c.forget.new.frames _ _ c.self.invariant c.if-is_fixed.ensures c.forget.ensures

pub returns-clause-ranked : goal.returns-clause-ranked
returns-clause-ranked g c = rw (← c.self.view_is) (λ h ranked. forget_ranked (PagesFrom c.args.dev c.args.from) c.self.inside.frames c.forget.new.frames 0 [] c.forget.ensures h ranked)

pub returns-clause-forgotten : goal.returns-clause-forgotten
returns-clause-forgotten g c = rw (← c.self.view_is) (pool_forgets c.args.dev c.args.from c.self.inside.frames c.forget.new.frames _ _ (rw length-map (omega arith)) c.if-is_fixed.ensures c.forget.ensures)

pub returns-then-dev-len-clause-refused : goal.returns-then-dev-len-clause-refused
returns-then-dev-len-clause-refused g c = rw (← c.self.view_is) (simp length-map (omega arith), refl)

pub returns-then-is_fixed-clause-refused : goal.returns-then-is_fixed-clause-refused
returns-then-is_fixed-clause-refused g c = rw (← c.self.view_is) (simp length-map (omega arith), fixed_from _ c.args.dev c.args.from c.self.invariant c.if-is_fixed.ensures, refl)
