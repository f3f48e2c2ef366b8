use Rattle.std.proofs.Common.{◌≡◌, ◌+◌, ◌-◌, ◌≤◌, vec_len, vec_capacity, None}
use Rattle.warm_frames.specs.Reading.{entries_at}
use Rattle.warm_frames.proofs.EntryLemmas.{with_front}
use Rattle.warm_frames.proofs.reading.entries_at.Given as goal

-- the entries read, and those that are still to be read, are all; and there is room for these
abbrev pub invariant-loop : goal.invariant-loop
invariant-loop l = record {
  reads : with_front l.entries.items (entries_at l.format (l.count - l.counter) l.before l.rest) ≡ entries_at l.format l.count None l.bytes;
  room : vec_len l.entries + l.count ≤ vec_capacity l.entries + l.counter;
}
