use Rattle.std.proofs.Common.{◌≡◌, ℕ, ◌+◌, length, ap, sym, refl, ◌∙◌, arith}
use Rattle.std.proofs.lemmas.Bool.{eqb-true}
use Rattle.warm_player.proofs.StreamLemmas.{Goes-end, answers_whole, answers_held, nothing}
use Rattle.warm_player.proofs.player.Session.end_line.Goals as goal

pub returns-then-is_empty-clause-goes : goal.returns-then-is_empty-clause-goes
returns-then-is_empty-clause-goes g c =
    let a = c.in_ok-answer.ensures.answered in
    let line = c.args.self.now.line in
    let none : length line.items ≡ 0 = omega (arith, line.ok.0, eqb-true _ _ (sym c.is_empty.ensures ∙ c.if-is_empty.true)) in
    (a.0, a.1, Goes-end _ _ c.args.piece.now a.0 c.requires.line (answers_whole _ c.args.piece.now a.0 _ none a.2) refl (nothing line.items none))

pub returns-clause-goes : goal.returns-clause-goes
returns-clause-goes g c =
    let a = c.in_ok-answer_held.ensures.answered in
    (a.0, a.1, Goes-end _ _ c.args.piece.now a.0 c.requires.line (answers_held _ _ c.args.piece.now a.0 _ c.in_ok-add.ensures.adds a.2) (ap (λ (n : ℕ). n + 1) (c.in_ok-answer_held.ensures.number ∙ c.in_ok-add.ensures.number)) c.in_ok-answer_held.ensures.none)
