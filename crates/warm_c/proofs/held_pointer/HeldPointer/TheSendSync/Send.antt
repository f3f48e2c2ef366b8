use denote.Param.Send.{IsSend}
use Rattle.warm_c.specs.contracts.held_pointer.HeldPointer.{the_row}
use Rattle.warm_c.proofs.SendLemmas.{pointer_send}

pub send : IsSend the_row
send = pointer_send
