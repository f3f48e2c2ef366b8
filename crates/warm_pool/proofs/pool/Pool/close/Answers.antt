use Rattle.warm_pool.proofs.HandingBackLemmas.{none_waits}
use Rattle.warm_pool.proofs.pool.Pool.close.Goals as goal

pub let_all_go-requires : goal.let_all_go-requires
let_all_go-requires g c = none_waits _ _ c.in_ok-devices.ensures.done.handed_back

pub returns-clause-done : goal.returns-clause-done
returns-clause-done g c = c.in_ok-devices.ensures.done.unfixed
