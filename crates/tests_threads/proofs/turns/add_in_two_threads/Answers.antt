use denote.Param.Send.{sendable}
use Rattle.std.proofs.Crossing.{crosses}
use Rattle.warm_turn.proofs.SendLemmas.{pass_send, turn_sync}
use Rattle.tests_threads.proofs.turns.add_in_two_threads.Goals as goal

pub join-requires-send-F : goal.join-requires-send-F
join-requires-send-F g c κs within = let m = c.type_bounds.send-M in let r = c.type_bounds.sync-R in search (sendable, crosses, pass_send, turn_sync) depth 20

pub join-requires-send-A : goal.join-requires-send-A
join-requires-send-A g c κs within = let m = c.type_bounds.send-M in search (sendable, pass_send) depth 20
