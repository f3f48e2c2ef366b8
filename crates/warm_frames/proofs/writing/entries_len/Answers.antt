use Rattle.std.proofs.Common.{arith}
use Rattle.warm_frames.proofs.WritingLemmas.{length_and_one}
use Rattle.warm_frames.proofs.writing.entries_len.Goals as goal

pub loop-entry-preserved : goal.loop-entry-preserved
loop-entry-preserved c = record {
  so_far = length_and_one c.args.entries.now c.loop-entry.entry-index c.loop-entry.len c.hist_len.result c.entry-item.result c.loop-entry-test.true c.entry-item.is c.hist_len.ensures.value c.loop-entry.invariant.so_far;
  most = omega arith;
}
