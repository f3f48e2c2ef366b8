use Rattle.std.proofs.Common.{[], ◌++◌}
use Rattle.std.proofs.KnownBytes.{Consumes-nil, Consumes-trans}
use Rattle.warm_dump.specs.Progress.{HasRead}
use Rattle.warm_dump.proofs.EndLemmas.{whole_text, any_text}
use Rattle.warm_dump.proofs.ReadLemmas.{passed_on}
use Rattle.warm_dump.proofs.StopLemmas.{read_refused}
use Rattle.warm_dump.proofs.reading.DumpReader.read_all.Goals as goal

pub loop-init : goal.loop-init
loop-init g c = record { goes = ([], Consumes-nil _, c.requires); size = c.in_ok-buffer.ensures.len }

pub loop-preserved : goal.loop-preserved
loop-preserved g c =
    let so_far = c.loop.invariant.goes in
    let next = c.in_ok-read_some.ensures.read in
    record {
      goes = (so_far.0 ++ next.0, Consumes-trans _ _ _ so_far.0 next.0 so_far.1 next.1, next.2 so_far.0 so_far.2);
      size = c.loop.invariant.size;
    }

pub returns-then-not-branch-clause-end : goal.returns-then-not-branch-clause-end
returns-then-not-branch-clause-end g c = c.in_ok-read_some.ensures.end c.if-not-branch.true

pub returns-then-not-branch-clause-read : goal.returns-then-not-branch-clause-read
returns-then-not-branch-clause-read g c =
    let so_far = c.loop.invariant.goes in
    let next = c.in_ok-read_some.ensures.read in
    whole_text _ _ (so_far.0 ++ next.0) (λ text. HasRead text c.read_some.new.self) (Consumes-trans _ _ _ so_far.0 next.0 so_far.1 next.1)
    (c.in_ok-read_some.ensures.end c.if-not-branch.true) (next.2 so_far.0 so_far.2)

pub returns-clause-refused : goal.returns-clause-refused
returns-clause-refused g c = any_text _ _ (λ t. tt)

pub returns-in_err-read_some-clause-refused : goal.returns-in_err-read_some-clause-refused
returns-in_err-read_some-clause-refused g c =
    let so_far = c.loop.invariant.goes in
    let why = c.in_err-read_some.field-0.0 in
    passed_on c.from_residual-in_err-read_some.result why _ c.from_residual-in_err-read_some.ensures.1
    (read_refused (g.R.Read.remaining c.args.reader.now) (g.R.Read.remaining c.loop.reader) (g.R.Read.remaining c.read_some.new.reader) so_far.0 _ why _ so_far.1 so_far.2 c.in_err-read_some.ensures.refused)
