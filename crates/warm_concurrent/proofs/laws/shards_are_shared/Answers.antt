use Rattle.warm_concurrent.proofs.SendLemmas.{attached_send, shards_sync}
use Rattle.warm_concurrent.proofs.laws.shards_are_shared.Goals as goal

pub returns : goal.returns
returns g c =
    let sends = c.type_bounds.send-D in
    record { attached = attached_send _ g.D.PageDevice sends; shared = shards_sync _ g.D.PageDevice sends }
