use Rattle.std.proofs.Common.{◌≡◌, take}
use Rattle.warm_visits.specs.Parts.{part_of_entries}
use Rattle.warm_shards.proofs.message_parts.part_of_entries.Given as goal

-- the part of the entries so far
abbrev pub invariant-loop-entry : goal.invariant-loop-entry
invariant-loop-entry l =
    l.part.items ≡ part_of_entries l.shards l.shard (take l.entry-index l.entries)
