use Rattle.std.proofs.Common.{◌≡◌, ◌++◌}
use Rattle.warm_frames.specs.Entries.{entries_bytes}
use Rattle.warm_digest.specs.Hashing.{Gathers}
use Rattle.warm_digest.proofs.cached.digest_of.Given as goal

abbrev pub invariant-loop-entry : goal.invariant-loop-entry
invariant-loop-entry l = record {
  split : l.yielded ++ l.entry-iterator ≡ l.fn.entries;
  gathered : Gathers l.hasher l.buffer.items (entries_bytes l.yielded);
}
