use Rattle.std.proofs.Common.{◌≡◌, ℕ, List, ◌+◌, ◌*◌, ◌≤◌, vec_len}
use Rattle.std.specs.Io.KnownBytes.{Appends, Consumes}
use Rattle.warm_world.specs.States.{opening}
use Rattle.warm_world.specs.Views.{listed}
use Rattle.warm_player.specs.Stream.{session, ReadsOn, IsFresh}
use Rattle.warm_player.proofs.player.play.Given as goal

abbrev pub invariant-loop : goal.invariant-loop
invariant-loop g l =
    let contents = g.W.Write.contents in
    let remaining = g.R.Read.remaining in
    record {
      goes : (seen out : List ℕ) × Consumes (remaining l.fn.reader) (remaining l.reader) seen
          × Appends (contents l.fn.writer) (contents l.writer) out
          × ReadsOn (session l.initial.session) seen out (session l.session);
      number : l.session.number ≤ 1 + l.counter * 65536;
      size : vec_len l.buffer ≡ 65536;
      fresh : IsFresh (session l.initial.session)
          (opening l.fn.setup (listed g.D.PageDevice.state l.fn.devices.items));
    }
