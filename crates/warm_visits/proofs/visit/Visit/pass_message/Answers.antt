use Rattle.std.proofs.Common.{sym, ap, ◌∙◌}
use Rattle.warm_visits.specs.declared.visit.Work.{Work}
use Rattle.warm_visits.specs.declared.visit.Work.TheVariants.{Read}
use Rattle.warm_visits.specs.VisitMessages.{without_message}
use Rattle.warm_visits.specs.VisitParts.{visit_of}
use Rattle.warm_visits.specs.Visits.{VisitState}
use Rattle.warm_visits.proofs.VisitReadsMessages.{passes_read}
use Rattle.warm_visits.proofs.visit.Visit.pass_message.Goals as goal

pub returns : goal.returns
returns c =
    let s = c.self.inside in
    let v : Work → VisitState = λ k. visit_of s.id s.count s.time s.rising s.shard k s.kept s.stopped in
    ap (λ (r : VisitState). v (Read r)) c.pass_message.ensures
    ∙ passes_read s.id s.count s.time s.rising s.shard s.kept s.stopped c.in-Read.reading
    ∙ ap (λ (k : Work). without_message (v k)) (sym c.in-Read.is)
    ∙ ap without_message c.self.view_is
