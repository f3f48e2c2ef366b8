use Rattle.warm_player.specs.Answers.{end_refused}
use Rattle.warm_player.proofs.StreamLemmas.{done, settles_ill}
use Rattle.warm_player.proofs.player.Session.settle.Goals as goal

pub returns-in_ok-map_err-in-Err-clause-settled : goal.returns-in_ok-map_err-in-Err-clause-settled
returns-in_ok-map_err-in-Err-clause-settled g c = (
  end_refused,
  done c.print_end_refused.result c.in_ok-map_err-in-Err.ensures.variant c.print_end_refused.ensures,
  settles_ill _ _ _ c.in-Err.ensures.refused,
  λ none. absurd (cc),
)
