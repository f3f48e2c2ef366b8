use Rattle.std.proofs.Common.{◌≡◌, [], ◌++◌, sym, arith}
use Rattle.warm_world.specs.Views.{listed}
use Rattle.warm_world.proofs.ReplicaBufferLemmas.{passed_on}
use Rattle.warm_random.proofs.AppendLemmas.{Appends-none, Appends-then}
use Rattle.warm_player.proofs.StreamLemmas.{Consumes-none, Consumes-then, Consumes-all, if_some_map, Goes-none, Goes-then, Goes-whole, Played-text, stopped_play}
use Rattle.warm_player.proofs.player.play.Goals as goal

pub loop-init : goal.loop-init
loop-init g c = record {
  goes = ([], [], Consumes-none _, Appends-none _, Goes-none _);
  number = omega (arith, c.in_ok-session.ensures.fresh.first);
  size = c.in_ok-buffer.ensures.len;
  fresh = c.in_ok-session.ensures.fresh;
}

pub loop-preserved : goal.loop-preserved
loop-preserved g c =
    let so_far = c.loop.invariant.goes in
    let next = c.in_ok-read_some.ensures.goes in
    record {
      goes = (so_far.0 ++ next.0, so_far.1 ++ next.1, Consumes-then _ _ _ so_far.0 next.0 so_far.2 next.2, Appends-then _ _ _ so_far.1 next.1 so_far.3 next.3, Goes-then _ _ _ so_far.0 next.0 so_far.1 next.1 so_far.4 next.4);
      number = omega (arith, c.loop.invariant.number, c.in_ok-read_some.ensures.number, c.as_mut_slice.ensures.len, c.loop.invariant.size);
      size = c.loop.invariant.size;
      fresh = c.loop.invariant.fresh;
    }

pub returns-then-not-branch-clause-printed : goal.returns-then-not-branch-clause-printed
returns-then-not-branch-clause-printed g c =
    let so_far = c.loop.invariant.goes in
    let next = c.in_ok-read_some.ensures.goes in
    let last = c.in_ok-finish.ensures.ended in
    let closed = last.0 ++ last.1 in
    let seen = so_far.0 ++ next.0 in
    let out = so_far.1 ++ next.1 in
    let at_end = c.in_ok-read_some.ensures.end c.if-not-branch.true in
    let whole = Goes-whole _ _ _ seen out last.0 last.1 (Goes-then _ _ _ so_far.0 next.0 so_far.1 next.1 so_far.4 next.4) last.3 c.loop.invariant.fresh.holds c.loop.invariant.fresh.first in
    if_some_map (g.R.Read.remaining c.args.reader.now) (λ text. text ≡ seen) _
    (λ text e. (out ++ closed, Appends-then _ _ _ out closed (Appends-then _ _ _ so_far.1 next.1 so_far.3 next.3) last.2, Played-text _ _ _ (out ++ closed) (sym e) whole))
    (Consumes-all _ _ seen (Consumes-then _ _ _ so_far.0 next.0 so_far.2 next.2) at_end)

pub returns-in_err-read_some-clause-refused : goal.returns-in_err-read_some-clause-refused
returns-in_err-read_some-clause-refused g c =
    passed_on c.from_residual-in_err-read_some.result c.in_err-read_some.field-0.0 _ c.from_residual-in_err-read_some.ensures.1
    (stopped_play c.args.setup (listed g.D.PageDevice.state c.args.devices.items) c.in_err-read_some.field-0.0 c.in_ok-session.ensures.fitting c.in_err-read_some.ensures.stopped)
