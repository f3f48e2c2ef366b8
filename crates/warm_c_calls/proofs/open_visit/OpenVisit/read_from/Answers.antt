use Rattle.std.proofs.Common.{refl}
use Rattle.warm_c_calls.proofs.open_visit.OpenVisit.read_from.Goals as goal

pub returns-in-Err : goal.returns-in-Err
returns-in-Err g c = ((c.in-Err.error.at, c.in-Err.ensures.refused), refl)
