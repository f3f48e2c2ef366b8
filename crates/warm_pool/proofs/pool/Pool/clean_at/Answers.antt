use Rattle.std.proofs.Common.{refl, ◌∙◌}
use Rattle.warm_pool.proofs.FetchedPageLemmas.{spare_keeps}
use Rattle.warm_pool.proofs.PageWriteBackLemmas.{cleans_spare, fails_spare, ok_then, err_then}
use Rattle.warm_pool.proofs.pool.Pool.clean_at.Goals as goal

pub write_back-requires-clause-fit : goal.write_back-requires-clause-fit
write_back-requires-clause-fit g c = spare_keeps _ _ refl c.self.invariant

pub invariant_of-self : goal.invariant_of-self
invariant_of-self g c = spare_keeps _ _ (c.self.invariant.spare_size ∙ c.write_back.ensures.fit.spare_size) c.write_back.ensures.fit

pub returns-clause-down : goal.returns-clause-down
returns-clause-down g c = rw (← c.self.view_is) (ok_then c.write_back.result c.write_back.ensures.done (λ down. cleans_spare _ _ _ _ down))

pub returns-clause-failed : goal.returns-clause-failed
returns-clause-failed g c = rw (← c.self.view_is) (err_then c.write_back.result c.write_back.ensures.failed (λ fails. fails_spare _ _ _ _ fails))

pub returns-clause-wrote : goal.returns-clause-wrote
returns-clause-wrote g c = rw (← c.self.view_is) c.write_back.ensures.wrote

pub returns-clause-unflushed : goal.returns-clause-unflushed
returns-clause-unflushed g c = rw (← c.self.view_is) c.write_back.ensures.unflushed
