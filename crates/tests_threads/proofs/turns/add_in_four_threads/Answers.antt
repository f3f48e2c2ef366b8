use denote.Param.Send.{sendable}
use Rattle.std.proofs.Crossing.{crosses}
use Rattle.warm_turn.proofs.SendLemmas.{pass_send, turn_sync}
use Rattle.tests_threads.proofs.turns.add_in_four_threads.Goals as goal

pub join-first-requires-send-F : goal.join-first-requires-send-F
join-first-requires-send-F g c κs within = let r = c.type_bounds.sync-R in search (sendable, crosses, pass_send, turn_sync) depth 20

pub join-first-requires-send-A : goal.join-first-requires-send-A
join-first-requires-send-A g c κs within = search (sendable, crosses, pass_send) depth 20
