use Rattle.std.proofs.Common.{◌≡◌, ap}
use Rattle.warm_turn.specs.Steps.{waiting, before_ticket, IsMade}
use Rattle.warm_turn.proofs.SeatLemmas.{is_made, is_called, waits_with}
use Rattle.warm_turn.proofs.turn.visit_later.Goals as goal

pub serve-output-requires-clause-has : goal.serve-output-requires-clause-has
serve-output-requires-clause-has g c = let h = c.poll_for_turn.ensures.serves in (h.1, ap (λ m. m.1) h.2)

pub pass_on-requires-clause-made : goal.pass_on-requires-clause-made
pass_on-requires-clause-made g c =
    let made = c.serve-output.ensures.made in
    let opening = g.M.Machine.view c.args.shared.now.key.value in
    let me = c.args.seat.now.me in
    let waits : me.0 ≡ waiting (before_ticket me.0) c.args.ticket = waits_with g.M.Machine.view g.M.Machine.goes opening me.0 c.args.ticket c.requires.waits.1 c.requires.waits.3 in (
      made.0,
      made.1,
      is_made g.M.Machine.view g.M.Machine.goes opening (before_ticket me.0) c.args.ticket me c.poll_for_turn.new.seat.me c.serve-output.new.seat.me made.0 made.1
          c.requires.pass.1 waits c.poll_for_turn.ensures.serves made.3,
    )

pub returns-clause-ok : goal.returns-clause-ok
returns-clause-ok g c =
    let made = c.serve-output.ensures.made in
    let opening = g.M.Machine.view c.args.shared.now.key.value in
    let me = c.args.seat.now.me in
    let waits : me.0 ≡ waiting (before_ticket me.0) c.args.ticket = waits_with g.M.Machine.view g.M.Machine.goes opening me.0 c.args.ticket c.requires.waits.1 c.requires.waits.3 in
    let is : IsMade g.M.Machine.view g.M.Machine.goes c.serve-output.new.seat.me made.0 made.1 =
    is_made g.M.Machine.view g.M.Machine.goes opening (before_ticket me.0) c.args.ticket me c.poll_for_turn.new.seat.me c.serve-output.new.seat.me made.0 made.1
    c.requires.pass.1 waits c.poll_for_turn.ensures.serves made.3 in
    let added = c.pass_on.ensures.added made.0 made.1 is in (
      made.0,
      made.1,
      made.2,
      is_called g.M.Machine.view g.M.Machine.goes opening (before_ticket me.0) c.args.ticket me c.poll_for_turn.new.seat.me c.serve-output.new.seat.me c.pass_on.new.seat.me made.0 made.1
          c.requires.pass.0 waits c.poll_for_turn.ensures.serves made.3 added.0 added.1,
    )

pub returns-clause-pass : goal.returns-clause-pass
returns-clause-pass g c = (returns-clause-ok g c).3.legal
