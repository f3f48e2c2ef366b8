use Rattle.warm_player.proofs.StreamLemmas.{answers_same}
use Rattle.warm_player.proofs.player.Session.answer_held.Goals as goal

pub returns-clause-answered : goal.returns-clause-answered
returns-clause-answered g c =
    let a = c.in_ok-answer.ensures.answered in
    (a.0, a.1, answers_same _ _ _ c.as_slice.result.now c.args.self.now.line.items a.0 c.as_slice.ensures.value a.2)
