use Rattle.std.proofs.Common.{◌≡◌, ℕ, List, ◌++◌, length}
use Rattle.std.specs.Io.KnownBytes.{Appends}
use Rattle.warm_history.specs.Histories.{PagesAscend}
use Rattle.warm_frames.specs.Chunks.{entry_messages}
use Rattle.warm_dump.specs.Dumps.{text_of}
use Rattle.warm_dump.proofs.writing.write_bucket.Given as goal

abbrev pub invariant-loop-chunk : goal.invariant-loop-chunk
invariant-loop-chunk g l =
    let contents = g.W.Write.contents in
    record {
      rise : PagesAscend l.left;
      goes : (out : List ℕ) × Appends (contents l.fn.writer) (contents l.writer) out
          × (out ++ text_of (entry_messages l.sender l.horizon l.left) ≡ text_of (entry_messages l.sender l.horizon l.initial.left));
    }

abbrev pub decreases-loop-chunk : goal.decreases-loop-chunk
decreases-loop-chunk g l = length l.left
