use Rattle.std.proofs.Common.{◌++◌}
use Rattle.warm_random.proofs.AppendLemmas.{Appends-then}
use Rattle.warm_player.proofs.StreamLemmas.{Appends-kept, Ends-answer}
use Rattle.warm_player.proofs.player.Session.finish.Goals as goal

pub returns-clause-ended : goal.returns-clause-ended
returns-clause-ended g c =
    let answered = c.in_ok-answer_held.ensures.answered in
    let settled = c.in_ok-settle.ensures.settled in (
      answered.0,
      settled.0,
      Appends-kept _ _ _ (answered.0 ++ settled.0) (Appends-then _ _ _ answered.0 settled.0 answered.1 settled.1) c.in_ok-flush_answers.ensures.kept,
      Ends-answer _ answered.0 settled.0 _ answered.2 settled.2,
      settled.3,
    )
