use denote.Param.Send.{sendable}
use Rattle.std.proofs.Crossing.{crosses}
use Rattle.warm_turn.proofs.SendLemmas.{pass_send, turn_sync}
use Rattle.bench_threads.proofs.replica.bring_two.Goals as goal

pub join-pass-requires-send-F : goal.join-pass-requires-send-F
join-pass-requires-send-F g c κs within = let m = c.type_bounds.send-M in let r = c.type_bounds.sync-R in search (sendable, crosses, pass_send, turn_sync) depth 20

pub join-pass-requires-send-A : goal.join-pass-requires-send-A
join-pass-requires-send-A g c κs within = let m = c.type_bounds.send-M in search (sendable, pass_send) depth 20
