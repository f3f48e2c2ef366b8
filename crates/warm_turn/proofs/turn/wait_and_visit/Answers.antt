use Rattle.std.proofs.Common.{sym, subst}
use Rattle.warm_turn.specs.CallHistories.{IsPass}
use Rattle.warm_turn.proofs.PassLemmas.{spent_is_pass}
use Rattle.warm_turn.proofs.SeatLemmas.{called_from, took_unmarked, was_pass}
use Rattle.warm_turn.proofs.turn.wait_and_visit.Goals as goal

pub visit_later-output-requires-clause-pass : goal.visit_later-output-requires-clause-pass
visit_later-output-requires-clause-pass g c =
    (took_unmarked g.M.Machine.view g.M.Machine.goes (g.M.Machine.view c.args.shared.now.key.value) c.args.seat.now.me c.poll_for_ticket.new.seat.me c.in-Some.ticket c.in-Some.ensures.some, was_pass g.M.Machine.view g.M.Machine.goes (g.M.Machine.view c.args.shared.now.key.value) c.args.seat.now.me c.poll_for_ticket.new.seat.me c.in-Some.ticket c.requires.idle.1 c.in-Some.ensures.some)

pub returns-clause-ok : goal.returns-clause-ok
returns-clause-ok g c =
    let made = c.visit_later-output.ensures.ok in (
      made.0,
      made.1,
      made.2,
      called_from g.M.Machine.view g.M.Machine.goes (g.M.Machine.view c.args.shared.now.key.value) c.args.seat.now.me c.poll_for_ticket.new.seat.me c.in-Some.ticket made.0 made.1 c.visit_later-output.new.seat.me.0 c.in-Some.ensures.some made.3,
    )

pub returns-in_default-clause-pass : goal.returns-in_default-clause-pass
returns-in_default-clause-pass g c = subst (λ (m : _). IsPass g.M.Machine.goes m.0) (sym c.in_default.ensures.none) (spent_is_pass g.M.Machine.goes _ c.requires.idle.1)
