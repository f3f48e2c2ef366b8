use denote.Param.Send.{sendable}
use Rattle.std.proofs.Crossing.{crosses}
use Rattle.warm_turn.proofs.SendLemmas.{pass_send, turn_sync}
use Rattle.bench_threads.proofs.turn.+visit_in.Goals as goal

pub join-pass-requires-send-F : goal.join-pass-requires-send-F
join-pass-requires-send-F g t c κs within = let m = c.requires.send.0 in let r = c.requires.send.1 in search (sendable, crosses, pass_send, turn_sync) depth 20

pub join-pass-requires-send-A : goal.join-pass-requires-send-A
join-pass-requires-send-A g t c κs within = let m = c.requires.send.0 in search (sendable, pass_send) depth 20
