use Rattle.std.proofs.Common.{sym, subst, ap, ◌∙◌}
use Rattle.warm_frames.specs.Entries.{FitsInFrame}
use Rattle.warm_visits.specs.Parts.{part_of_entries}
use Rattle.warm_shards.proofs.PartEntries.{part_fits}
use Rattle.warm_shards.proofs.message_parts.entries_for.Goals as goal

pub returns-clause-fits : goal.returns-clause-fits
returns-clause-fits c =
    let is = c.in_ok-part.ensures ∙ ap (part_of_entries c.args.shards c.args.shard) c.as_slice.ensures.value in
    subst FitsInFrame (sym is) (part_fits c.args.shards c.args.shard c.in-Entries.entries c.as_slice.ensures.whole)
