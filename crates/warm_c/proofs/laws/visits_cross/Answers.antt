use Rattle.warm_c.proofs.visit_handle.VisitHandle.TheSendSync.{the_send}
use Rattle.warm_c.proofs.laws.visits_cross.Goals as goal

pub returns : goal.returns
returns c = the_send
