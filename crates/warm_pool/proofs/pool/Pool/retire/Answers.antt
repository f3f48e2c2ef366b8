use Rattle.warm_pool.proofs.FlushLemmas.{handed_on}
use Rattle.warm_pool.proofs.pool.Pool.retire.Goals as goal

pub let_go-requires : goal.let_go-requires
let_go-requires g c = c.in_ok-old.ensures.done.handed_back.flushed

pub returns-in_err-old-clause-refused : goal.returns-in_err-old-clause-refused
returns-in_err-old-clause-refused g c = handed_on c.from_residual.result c.in_err-old.field-0.0 _ c.from_residual.ensures.1 c.in_err-old.ensures.refused

pub returns-clause-done : goal.returns-clause-done
returns-clause-done g c = c.in_ok-old.ensures.done.retires
