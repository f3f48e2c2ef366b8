use Rattle.warm_c.proofs.handle.Handle.TheSendSync.{the_send}
use Rattle.warm_c.proofs.laws.handles_cross.Goals as goal

pub returns : goal.returns
returns c = the_send
