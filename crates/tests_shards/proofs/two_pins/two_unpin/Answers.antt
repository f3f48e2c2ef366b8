use Rattle.std.proofs.Common.{◌∙◌, arith}
use Rattle.tests_shards.proofs.TwoThreadPinLemmas.{none_pinned}
use Rattle.tests_shards.proofs.two_pins.two_unpin.Goals as goal

-- the law of two threads that unpin, of what each call ensured
pub returns : goal.returns
returns g c none =
    let shared = c.in-Ok-share in
    let more = c.in-Ok-attach in
    let held = more.ensures.held ∙ shared.ensures.pins in
    let ours = c.in-Ok-pin in
    let theirs = c.in-Ok-pin-2 in
    none_pinned _ _ c.pins_are_counted.ensures.two c.args.shards shared.shared _ _ _ _ _ _ _ _ _ _ _ _ _ _ _ _ _ none (shared.ensures.shards ∙ c.in-Ok.ensures.shards) shared.ensures.first more.ensures.halved more.ensures.given ours.ensures.attached theirs.ensures.attached ours.ensures.shard theirs.ensures.shard (ours.ensures.ends (λ e. omega (arith, e, held))) (theirs.ensures.ends (λ e. omega (arith, e, more.ensures.pins))) (c.in-Ok-unpin.ensures.ends (λ e. omega (arith, e, ours.ensures.held))) (c.in-Ok-unpin-2.ensures.ends (λ e. omega (arith, e, theirs.ensures.held))) c.in-Ok-detach.ensures.joined.1 c.in-Ok-detach.ensures.attached c.in-Ok-close.ensures.closed
