use Rattle.std.proofs.Common.{◌≡◌, ◌≤◌, ◌++◌, length}
use Rattle.warm_frames.specs.declared.layout.TheConstants.{MAX_ENTRIES}
use Rattle.warm_dump.proofs.writing.next_chunk.Given as goal

abbrev pub invariant-loop-left : goal.invariant-loop-left
invariant-loop-left l = record {
  goes : l.chunk.items ++ l.left ≡ l.fn.left;
  few : length l.chunk.items ≤ MAX_ENTRIES;
}

abbrev pub decreases-loop-left : goal.decreases-loop-left
decreases-loop-left l = length l.left
