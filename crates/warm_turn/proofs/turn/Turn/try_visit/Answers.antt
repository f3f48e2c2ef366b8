use Rattle.std.proofs.Common.{[], ap, refl, subst}
use Rattle.warm_turn.specs.declared.table.View.{View}
use Rattle.warm_turn.specs.CallHistories.{Called}
use Rattle.warm_turn.specs.Steps.{waiting, IsMade}
use Rattle.warm_turn.proofs.SeatLemmas.{is_made, is_called}
use Rattle.warm_turn.proofs.turn.Turn.try_visit.Goals as goal

pub serve-output-requires-clause-has : goal.serve-output-requires-clause-has
serve-output-requires-clause-has g c = let t = c.try_turn.ensures.turn c.if-not-try_turn.false in (t.2.1, ap (λ m. m.1) t.2.2)

pub pass_on-requires-clause-made : goal.pass_on-requires-clause-made
pass_on-requires-clause-made g c =
    let made = c.serve-output.ensures.made in
    let opening = g.M.Machine.view c.self.inside.table.shared.key.value in
    let start = c.pass.inside.seat.me.0 in
    let t = c.try_turn.ensures.turn c.if-not-try_turn.false in (
      made.0,
      made.1,
      is_made g.M.Machine.view g.M.Machine.goes opening start t.0 (waiting start t.0, []) c.try_turn.new.seat.me c.serve-output.new.seat.me made.0 made.1
          c.pass.invariant.1 refl t.2 made.3,
    )

pub returns-clause-visited : goal.returns-clause-visited
returns-clause-visited g c =
    let made = c.serve-output.ensures.made in
    let opening = g.M.Machine.view c.self.inside.table.shared.key.value in
    let start = c.pass.inside.seat.me.0 in
    let t = c.try_turn.ensures.turn c.if-not-try_turn.false in
    let is : IsMade g.M.Machine.view g.M.Machine.goes c.serve-output.new.seat.me made.0 made.1 =
    is_made g.M.Machine.view g.M.Machine.goes opening start t.0 (waiting start t.0, []) c.try_turn.new.seat.me c.serve-output.new.seat.me made.0 made.1
    c.pass.invariant.1 refl t.2 made.3 in
    let added = c.pass_on.ensures.added made.0 made.1 is in
    let called = is_called g.M.Machine.view g.M.Machine.goes opening start t.0 (waiting start t.0, []) c.try_turn.new.seat.me c.serve-output.new.seat.me c.pass_on.new.seat.me made.0 made.1
    t.1 refl t.2 made.3 added.0 added.1 in (
      made.0,
      made.1,
      made.2,
      subst (λ (v : View g.row.M-State.Denot g.row.M-Call.Denot g.row.M-Reply.Denot). Called g.M.Machine.goes v made.0 made.1 c.pass_on.new.seat.me.0) (ap (λ p. p.view) c.pass.view_is) called,
    )

pub invariant_of-pass-2 : goal.invariant_of-pass-2
invariant_of-pass-2 g c = (c.pass_on.ensures.home, (returns-clause-visited g c).3.legal)
