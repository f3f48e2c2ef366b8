use Rattle.std.proofs.Common.{◌∙◌}
use Rattle.tests_shards.proofs.two_threads.two_absorb.Goals as goal

-- the law of two threads, of what each call ensured
pub returns : goal.returns
returns g c S stands =
    let shared = c.in-Ok-share in
    let more = c.in-Ok-attach in
    c.threads_give.ensures.two S c.args.shards shared.shared _ _ _ _ _ _ _ _ _ c.count-count.ensures.shards (shared.ensures.shards ∙ c.in-Ok.ensures.shards) stands shared.ensures.first more.ensures.halved more.ensures.given c.in-Ok-absorb.ensures.absorbed c.in-Ok-absorb-2.ensures.absorbed c.in-Ok-detach.ensures.joined.1 c.in-Ok-close.ensures.closed
