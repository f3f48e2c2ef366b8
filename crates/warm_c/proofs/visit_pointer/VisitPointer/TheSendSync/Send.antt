use denote.Param.Send.{IsSend}
use Rattle.warm_c.specs.contracts.visit_pointer.VisitPointer.{the_row}
use Rattle.warm_c.proofs.SendLemmas.{visit_send}

pub send : IsSend the_row
send = visit_send
