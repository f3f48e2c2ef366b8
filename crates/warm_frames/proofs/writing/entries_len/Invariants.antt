use Rattle.std.proofs.Common.{◌≡◌, ◌*◌, ◌≤◌, length, take}
use Rattle.warm_frames.specs.declared.layout.TheConstants.{MAX_ENTRY_SIZE}
use Rattle.warm_frames.specs.Entries.{entries_bytes}
use Rattle.warm_frames.proofs.writing.entries_len.Given as goal

abbrev pub invariant-loop-entry : goal.invariant-loop-entry
invariant-loop-entry l = record {
  so_far : l.len ≡ length (entries_bytes (take l.entry-index l.entries));
  most : l.len ≤ MAX_ENTRY_SIZE * l.entry-index;
}
