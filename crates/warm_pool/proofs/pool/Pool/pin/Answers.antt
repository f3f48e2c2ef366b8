use Rattle.warm_pool.proofs.FlushLemmas.{handed_on}
use Rattle.warm_pool.proofs.pool.Pool.pin.Goals as goal

pub returns-in_err-placed-clause-refused : goal.returns-in_err-placed-clause-refused
returns-in_err-placed-clause-refused g c = handed_on c.from_residual.result c.in_err-placed.field-0.0 _ c.from_residual.ensures.1 c.in_err-placed.ensures.refused

pub returns-clause-done : goal.returns-clause-done
returns-clause-done g c = c.in_ok-placed.ensures.done.pin
