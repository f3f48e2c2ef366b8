use Rattle.std.proofs.Common.{◌≡◌, Ok, Err, None, refl, arith}
use Rattle.warm_history.specs.Entry.{Entry}
use Rattle.warm_frames.specs.Reading.{entry_at, entries_at}
use Rattle.warm_frames.proofs.EntryLemmas.{reads_on, reads_fault, reads_all}
use Rattle.warm_frames.proofs.reading.entries_at.Goals as goal

pub returns-in-Err : goal.returns-in-Err
returns-in-Err c = reads_fault c.args.format c.loop.entries.items c.args.count c.loop.counter c.loop.before c.loop.rest.now c.in-Err.fault (entries_at c.args.format c.args.count None c.args.bytes.now) c.loop-test.true c.in-Err.ensures.fault c.loop.invariant.reads

pub returns-in-Err-hist_at : goal.returns-in-Err-hist_at
returns-in-Err-hist_at c =
    let fault : entry_at c.args.format c.loop.before c.loop.rest.now ≡ Err c.in-Err-hist_at.fault = rw (c.in-Ok.ensures.found, c.in-Err-hist_at.ensures) refl in
    reads_fault c.args.format c.loop.entries.items c.args.count c.loop.counter c.loop.before c.loop.rest.now c.in-Err-hist_at.fault (entries_at c.args.format c.args.count None c.args.bytes.now) c.loop-test.true fault c.loop.invariant.reads

pub loop-preserved : goal.loop-preserved
loop-preserved c =
    let entry : Entry = record { page = c.in-Ok.start.0; hist = c.in-Ok-hist_at.hist } in
    let found : entry_at c.args.format c.loop.before c.loop.rest.now ≡ Ok (entry, c.in-Ok-hist_at.after.now) = rw (c.in-Ok.ensures.found, c.in-Ok-hist_at.ensures) refl in
    record {
      reads = rw c.push_reserved.ensures.items (reads_on c.args.format c.loop.entries.items c.args.count c.loop.counter c.loop.before c.loop.rest.now entry c.in-Ok-hist_at.after.now (entries_at c.args.format c.args.count None c.args.bytes.now) c.loop-test.true found c.loop.invariant.reads);
      room = omega arith;
    }

pub returns : goal.returns
returns c = reads_all c.args.format c.loop.entries.items c.args.count c.loop.counter c.loop.before c.loop.rest.now (entries_at c.args.format c.args.count None c.args.bytes.now) c.loop-test.false c.loop.invariant.reads
