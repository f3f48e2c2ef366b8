use Rattle.std.proofs.Common.{List, ap, subst, sym}
use Rattle.std.specs.List.{All}
use Rattle.warm_replica.specs.declared.job.StepReply.{StepReply}
use Rattle.warm_replica.specs.declared.replies.Run.{Run}
use Rattle.warm_replica.specs.Replied.{IsTaken, Replied}
use Rattle.warm_replica.proofs.ReplyLemmas.{taken_if, taken_only_if}
use Rattle.warm_replica.proofs.replies.Replies.are_taken.Goals as goal

pub returns : goal.returns
returns c =
    let s = c.self.inside in
    let shown = ap (λ (v : Replied). v.items) c.self.view_is in
    let runs = c.deref.ensures.value in (
      λ t. subst (λ (l : List StepReply). All IsTaken l) shown (taken_if s.runs.items s.touched (subst (λ (l : List Run). All (λ r. IsTaken r.reply) l) runs (c.are_ended_taken.ensures.0 t))),
      λ h. c.are_ended_taken.ensures.1 (subst (λ (l : List Run). All (λ r. IsTaken r.reply) l) (sym runs) (taken_only_if s.runs.items s.touched (subst (λ (l : List StepReply). All IsTaken l) (sym shown) h))),
    )
