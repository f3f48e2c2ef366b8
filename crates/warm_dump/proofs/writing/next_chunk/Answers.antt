use Rattle.std.proofs.Common.{List, ap, arith, length}
use Rattle.std.proofs.lemmas.List.{length-append}
use Rattle.warm_frames.specs.declared.layout.TheConstants.{MAX_ENTRIES}
use Rattle.warm_history.specs.Entry.{Entry}
use Rattle.warm_dump.proofs.DumpLemmas.{chunk_item, chunk_full, chunk_last}
use Rattle.warm_dump.proofs.writing.next_chunk.Goals as goal

pub loop-left-preserved : goal.loop-left-preserved
loop-left-preserved c = record {
  goes = rw c.in_ok-push-in-Some.ensures.items (chunk_item _ _ _ _ _ c.loop-left.invariant.goes c.in-Some.ensures.steps);
  few = omega (arith, c.loop-left-test.true, c.len.ensures, simp length-append at (ap (λ (es : List Entry). length es) c.in_ok-push-in-Some.ensures.items));
}

pub returns-in-None-clause-chunk : goal.returns-in-None-clause-chunk
returns-in-None-clause-chunk c = (chunk_last MAX_ENTRIES _ _ _ _ c.loop-left.invariant.goes c.in-None.ensures.steps.0 c.in-None.ensures.steps.1 c.loop-left.invariant.few).0

pub returns-in-None-clause-left : goal.returns-in-None-clause-left
returns-in-None-clause-left c = (chunk_last MAX_ENTRIES _ _ _ _ c.loop-left.invariant.goes c.in-None.ensures.steps.0 c.in-None.ensures.steps.1 c.loop-left.invariant.few).1

pub returns-clause-chunk : goal.returns-clause-chunk
returns-clause-chunk c = (chunk_full MAX_ENTRIES c.loop-left.chunk.items _ _ c.loop-left.invariant.goes (omega (arith, c.loop-left-test.false, c.len.ensures, c.loop-left.invariant.few))).0

pub returns-clause-left : goal.returns-clause-left
returns-clause-left c = (chunk_full MAX_ENTRIES c.loop-left.chunk.items _ _ c.loop-left.invariant.goes (omega (arith, c.loop-left-test.false, c.len.ensures, c.loop-left.invariant.few))).1
