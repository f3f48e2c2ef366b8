use Rattle.std.proofs.Common.{◌++◌}
use Rattle.std.specs.Io.KnownBytes.{Consumes}
use Rattle.warm_player.proofs.StreamLemmas.{Consumes-none, Consumes-then, Consumes-all}
use Rattle.warm_threads.proofs.reading.read_whole.Goals as goal

pub loop-init : goal.loop-init
loop-init g c = record { reads = rw c.new-text.ensures.items (Consumes-none _); size = c.in_ok-buffer.ensures.len }

pub loop-preserved : goal.loop-preserved
loop-preserved g c =
    let next = c.in_ok-read_some.ensures.reads in
    record {
      reads = rw next.2 (Consumes-then _ _ _ c.loop.text.items next.0 c.loop.invariant.reads next.1);
      size = c.loop.invariant.size;
    }

pub returns-then-not-branch-clause-end : goal.returns-then-not-branch-clause-end
returns-then-not-branch-clause-end g c = c.in_ok-read_some.ensures.end c.if-not-branch.true

pub returns-then-not-branch-clause-whole : goal.returns-then-not-branch-clause-whole
returns-then-not-branch-clause-whole g c =
    let next = c.in_ok-read_some.ensures.reads in
    let seen : Consumes _ _ (c.loop.text.items ++ next.0) = Consumes-then _ _ _ c.loop.text.items next.0 c.loop.invariant.reads next.1 in
    rw next.2 (Consumes-all _ _ (c.loop.text.items ++ next.0) seen (c.in_ok-read_some.ensures.end c.if-not-branch.true))
