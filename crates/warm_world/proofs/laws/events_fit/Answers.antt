use Rattle.warm_frames.proofs.EntryLemmas.{all_so_far}
use Rattle.warm_world.specs.Widths.{EventFits}
use Rattle.warm_world.proofs.laws.events_fit.Goals as goal

pub loop-event-preserved : goal.loop-event-preserved
loop-event-preserved c = all_so_far EventFits c.args.events.now c.loop-event.event-index c.event-item.result c.loop-event-test.true c.event-item.is c.loop-event.invariant c.event_fits.ensures
