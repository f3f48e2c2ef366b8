use denote.Param.Send.{sendable}
use Rattle.std.proofs.Crossing.{crosses}
use Rattle.warm_replica.proofs.SendLemmas.{report_send, worker_send, mail_loop_send}
use Rattle.warm_replica.proofs.mail_loops.start_mail_loop.Goals as goal

pub spawn_with-requires-send-F : goal.spawn_with-requires-send-F
spawn_with-requires-send-F g c κs within = let m = c.requires.send.0 in let r = c.requires.send.1 in search (sendable, crosses, mail_loop_send) depth 20

pub spawn_with-requires-send-T : goal.spawn_with-requires-send-T
spawn_with-requires-send-T g c κs within = let m = c.requires.send.0 in search (sendable, report_send, worker_send) depth 20
