use Rattle.std.proofs.Common.{IfOk, subst, ◌∙◌}
use Rattle.warm_history.specs.Histories.{HistoryView}
use Rattle.warm_history.specs.Losses.{raised}
use Rattle.warm_peer.specs.Answers.{AnswersDigests}
use Rattle.warm_peer.proofs.answers.answer_to_digests.Goals as goal

pub answer_given-requires : goal.answer_given-requires
answer_given-requires c = rw (c.history.ensures, c.in_ok-own.ensures.same) c.in_ok-own.ensures.table

pub returns-clause-answer : goal.returns-clause-answer
returns-clause-answer c =
    subst (λ (h : HistoryView). IfOk c.answer_given.result (λ messages. AnswersDigests c.args.id (raised c.args.horizon h) c.args.digests.now messages.items)) (c.history.ensures ∙ c.in_ok-own.ensures.same) c.answer_given.ensures
