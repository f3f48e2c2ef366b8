use Rattle.std.proofs.Common.{◌≡◌, ◌++◌, length}
use Rattle.std.specs.Io.KnownBytes.{Appends}
use Rattle.std.specs.List.{range_with_len}
use Rattle.warm_stamps.specs.declared.TheConstants.{BUCKETS}
use Rattle.warm_dump.specs.Dumps.{text_of}
use Rattle.warm_dump.proofs.DumpLemmas.{messages_below}
use Rattle.warm_dump.proofs.writing.write_entries.Given as goal

-- the buckets so far are written
abbrev pub invariant-loop-bucket : goal.invariant-loop-bucket
invariant-loop-bucket g l = record {
  split : l.yielded ++ l.bucket-iterator ≡ range_with_len 0 BUCKETS;
  written : Appends (g.W.Write.contents l.fn.writer) (g.W.Write.contents l.writer) (text_of (messages_below l.sender l.history (length l.yielded)));
}
