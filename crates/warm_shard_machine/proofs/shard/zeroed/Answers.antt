use Rattle.std.proofs.lemmas.Result.{err_from_is_err_and}
use Rattle.warm_pool.specs.Outcomes.{UnreadPinFails}
use Rattle.warm_pool.specs.View.{view_of}
use Rattle.warm_pool.specs.Zeroing.{LeavesUnread, ZeroedRefused}
use Rattle.warm_gossip.proofs.EngineLemmas.{of_pool, of_pool_each}
use Rattle.warm_shard_machine.proofs.shard.zeroed.Goals as goal

pub returns-in_err-slot : goal.returns-in_err-slot
returns-in_err-slot g c =
    let given = err_from_is_err_and c.from_residual.result c.from_residual.ensures.1 in
    let n = c.args.node.now in
    let m = c.pin_zeroed.new.self in
    let p = c.args.page in
    let why = c.in_err-slot.field-0.0 in
    let refused = c.in_err-slot.ensures.refused in
    rw (given.1, given.2) (
      c.in_err-slot.ensures.known,
      of_pool (λ fault. UnreadPinFails n.history p n.pool fault m.pool) why refused (λ fault is fails. fails.frames),
      of_pool_each (λ fault. UnreadPinFails n.history p n.pool fault m.pool) (λ fault. ZeroedRefused n.history (view_of n.pool) p fault (view_of m.pool)) why refused (λ fault fails. fails.cause),
      of_pool_each (λ fault. UnreadPinFails n.history p n.pool fault m.pool) (λ fault. LeavesUnread n.history n.pool fault m.pool) why refused (λ fault fails. fails.devices),
    )

pub returns : goal.returns
returns g c = (c.in_ok-slot.ensures.known, c.in_ok-slot.ensures.done.pinned, c.in_ok-slot.ensures.done.frame)
