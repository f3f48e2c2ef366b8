use Rattle.std.proofs.Common.{arith}
use Rattle.std.proofs.lemmas.List.{length-map}
use Rattle.warm_pool.proofs.ForgetLemmas.{unfixed_from}
use Rattle.warm_pool.proofs.pool.Pool.may_forget.Goals as goal

pub returns-clause-may : goal.returns-clause-may
returns-clause-may g c = rw (← c.self.view_is) (simp length-map (omega arith), unfixed_from _ c.args.dev c.args.from c.self.invariant c.if-is_fixed.ensures)
