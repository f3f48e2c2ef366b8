use denote.Param.Send.{sendable}
use Rattle.std.proofs.Crossing.{crosses}
use Rattle.warm_turn.proofs.SendLemmas.{pass_send, turn_sync}
use Rattle.warm_replica.proofs.SendLemmas.{prepared_job_send, replies_send}
use Rattle.warm_replica.proofs.job_threads.start_job.Goals as goal

pub spawn_with-requires-send-F : goal.spawn_with-requires-send-F
spawn_with-requires-send-F g c κs within = let m = c.requires.send.0 in let r = c.requires.send.1 in let gate = c.requires.send.2 in search (sendable, crosses, pass_send, turn_sync, prepared_job_send) depth 20

pub spawn_with-requires-send-T : goal.spawn_with-requires-send-T
spawn_with-requires-send-T g c κs within = let m = c.requires.send.0 in search (sendable, crosses, pass_send, replies_send) depth 20
