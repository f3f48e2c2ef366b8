use Rattle.warm_frames.specs.Entries.{IsEntry}
use Rattle.warm_frames.proofs.EntryLemmas.{all_so_far}
use Rattle.warm_frames.proofs.entries.are_entries.Goals as goal

pub loop-entry-preserved : goal.loop-entry-preserved
loop-entry-preserved c = all_so_far IsEntry c.args.entries.now c.loop-entry.entry-index c.entry-item.result c.loop-entry-test.true c.entry-item.is c.loop-entry.invariant c.is_entry.ensures
