use denote.Param.Send.{sendable}
use Rattle.std.proofs.Crossing.{crosses}
use Rattle.warm_devices.proofs.calls.CallsMade.TheSendSync.{the_send as calls_send}
use Rattle.warm_concurrent.proofs.SendLemmas.{attached_send, shards_sync}
use Rattle.tests_shards.proofs.threads.served_by_four.Goals as goal

pub join-one-requires-send-F : goal.join-one-requires-send-F
join-one-requires-send-F g c κs within = let r = c.type_bounds.sync-R in search (sendable, crosses, calls_send, attached_send, shards_sync) depth 30

pub join-one-requires-send-A : goal.join-one-requires-send-A
join-one-requires-send-A g c κs within = search (sendable, crosses, calls_send, attached_send) depth 20
