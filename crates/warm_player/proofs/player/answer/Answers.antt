use Rattle.std.proofs.Common.{[], ap, ◌∙◌, Ok, Err}
use Rattle.warm_gossip.specs.declared.fault.NodeFault.TheVariants.{Memory}
use Rattle.warm_world.specs.declared.event.WorldFault.TheVariants.{Node}
use Rattle.warm_player.specs.Answers.{answer_text, refused_text, bad_line}
use Rattle.warm_player.specs.declared.parse.Line.{Line}
use Rattle.warm_player.specs.declared.parse.Line.TheVariants as meant
use Rattle.warm_player.specs.declared.parse.LineFault.{LineFault}
use Rattle.warm_random.proofs.AppendLemmas.{Appends-none}
use Rattle.warm_player.proofs.StreamLemmas.{answers_event, answers_bad, answers_no_memory, answers_nothing, done, was_bad, was_line, was_put}
use Rattle.warm_player.proofs.player.answer.Goals as goal

pub returns-in_ok-say_bad-in-Err-Bad-clause-answered : goal.returns-in_ok-say_bad-in-Err-Bad-clause-answered
returns-in_ok-say_bad-in-Err-Bad-clause-answered g c = (
  bad_line c.args.number,
  c.in_ok-say_bad-in-Err-Bad.ensures.said,
  answers_bad _ _ c.args.line.now (was_bad c.args.line.now c.parse_line.result c.parse_line.ensures (c.in-Err-Bad.is ∙ ap (λ (fault : LineFault). Err fault) c.in-Err-Bad.field-0-is)),
)

pub returns-in_ok-say_no_memory-in-Err-Memory-clause-answered : goal.returns-in_ok-say_no_memory-in-Err-Memory-clause-answered
returns-in_ok-say_no_memory-in-Err-Memory-clause-answered g c = (
  refused_text (Node Memory),
  c.in_ok-say_no_memory-in-Err-Memory.ensures.said,
  answers_no_memory _ _ c.args.line.now (was_put c.args.line.now c.parse_line.result c.parse_line.ensures (c.in-Err-Memory.is ∙ ap (λ (fault : LineFault). Err fault) c.in-Err-Memory.field-0-is)),
)

pub returns-in-Ok-Nothing-clause-answered : goal.returns-in-Ok-Nothing-clause-answered
returns-in-Ok-Nothing-clause-answered g c = (
  [],
  Appends-none _,
  answers_nothing _ _ c.args.line.now (was_line c.args.line.now c.parse_line.result c.parse_line.ensures meant.Nothing (c.in-Ok-Nothing.is ∙ ap (λ (l : Line). Ok l) c.in-Ok-Nothing.field-0-is)),
)

pub returns-in_ok-map_err-in-Ok-Act-clause-answered : goal.returns-in_ok-map_err-in-Ok-Act-clause-answered
returns-in_ok-map_err-in-Ok-Act-clause-answered g c = (
  answer_text c.step-answer.result,
  done c.print_answer.result c.in_ok-map_err-in-Ok-Act.ensures.variant c.print_answer.ensures,
  answers_event _ _ c.args.line.now c.in-Ok-Act.event c.step-answer.result _
      (was_line c.args.line.now c.parse_line.result c.parse_line.ensures (meant.Act c.in-Ok-Act.event) (c.in-Ok-Act.is ∙ ap (λ (l : Line). Ok l) c.in-Ok-Act.field-0-is))
      c.step-answer.ensures,
)
