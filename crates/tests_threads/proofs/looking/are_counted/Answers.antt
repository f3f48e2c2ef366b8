use denote.Param.Send.{sendable}
use Rattle.std.proofs.Crossing.{crosses}
use Rattle.warm_devices.proofs.calls.CallsMade.TheSendSync.{the_send as calls_send}
use Rattle.warm_gossip.proofs.node.Node.TheSendSync.{the_send as node_send}
use Rattle.warm_turn.proofs.SendLemmas.{turn_sync}
use Rattle.warm_replica.proofs.SendLemmas.{worker_send}
use Rattle.tests_threads.proofs.looking.are_counted.Goals as goal

pub join-first-requires-send-F : goal.join-first-requires-send-F
join-first-requires-send-F g c κs within = let r = c.type_bounds.sync-R in search (sendable, crosses, calls_send, node_send, worker_send, turn_sync) depth 20

pub join-first-requires-send-A : goal.join-first-requires-send-A
join-first-requires-send-A g c κs within = search (sendable, crosses, calls_send, node_send, worker_send) depth 20
