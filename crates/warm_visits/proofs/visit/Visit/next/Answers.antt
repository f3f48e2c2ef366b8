use Rattle.std.proofs.Common.{◌≡◌, ◌<◌, ◌≤◌, ℕ, None, Option, sym, ap, subst, ◌∙◌, arith}
use Rattle.std.specs.Prelude.{IfSome, Some, if◌then◌else◌, nat_lt}
use Rattle.warm_visits.specs.declared.visit.Work.{Work}
use Rattle.warm_visits.specs.declared.visit.Work.TheVariants.{Give, Raise}
use Rattle.warm_visits.specs.VisitParts.{IsVisit, visit_of}
use Rattle.warm_visits.specs.Visits.{VisitState, next_shard}
use Rattle.warm_visits.proofs.VisitEntries.{next_below, next_work, part_next, read_is}
use Rattle.warm_visits.proofs.visit.Visit.next.Goals as goal

pub returns-in-Raise-clause-value : goal.returns-in-Raise-clause-value
returns-in-Raise-clause-value c =
    let s = c.self.inside in
    let v : Work → VisitState = λ k. visit_of s.id s.count s.time s.rising s.shard k s.kept s.stopped in
    let over : s.count ≤ s.rising = omega (arith, c.if-self-2.false) in
    sym (ap (λ k. next_shard (v k)) c.in-Raise.is ∙ next_work s.id s.count s.time s.rising s.shard Raise s.kept s.stopped over c.if-self.false) ∙ ap next_shard c.self.view_is

pub returns-in-Give-clause-value : goal.returns-in-Give-clause-value
returns-in-Give-clause-value c =
    let s = c.self.inside in
    let v : Work → VisitState = λ k. visit_of s.id s.count s.time s.rising s.shard k s.kept s.stopped in
    let over : s.count ≤ s.rising = omega (arith, c.if-self-2.false) in
    let parts = c.in-Give.field-0 in
    let valid = subst (IsVisit s.id s.count s.rising s.shard) c.in-Give.is c.self.invariant in
    c.below.ensures ∙ part_next s.count s.shard parts valid.within valid.place.1
    ∙ sym (ap (λ k. next_shard (v k)) c.in-Give.is ∙ next_work s.id s.count s.time s.rising s.shard (Give parts) s.kept s.stopped over c.if-self.false) ∙ ap next_shard c.self.view_is

pub returns-in-Give-clause-below : goal.returns-in-Give-clause-below
returns-in-Give-clause-below c =
    let s = c.self.inside in
    subst (λ (o : Option ℕ). IfSome o (λ x. x < c.args.self.now.count)) (sym c.below.ensures)
    (subst (λ (v : VisitState). IfSome (if nat_lt s.shard s.count then Some s.shard else None) (λ x. x < v.count)) c.self.view_is (next_below s.count s.shard))

pub returns-in-Read-clause-value : goal.returns-in-Read-clause-value
returns-in-Read-clause-value c =
    let s = c.self.inside in
    let v : Work → VisitState = λ k. visit_of s.id s.count s.time s.rising s.shard k s.kept s.stopped in
    let over : s.count ≤ s.rising = omega (arith, c.if-self-2.false) in
    let valid = subst (IsVisit s.id s.count s.rising s.shard) c.in-Read.is c.self.invariant in
    let is = read_is s.id s.count s.time s.rising s.shard c.in-Read.reading s.kept s.stopped valid.place over (c.if-self.false ∙ sym valid.place.going) in
    c.next.ensures.value ∙ sym (ap (λ k. next_shard (v k)) c.in-Read.is ∙ ap next_shard is) ∙ ap next_shard c.self.view_is

pub returns-in-Read-clause-below : goal.returns-in-Read-clause-below
returns-in-Read-clause-below c =
    let s = c.self.inside in
    let valid = subst (IsVisit s.id s.count s.rising s.shard) c.in-Read.is c.self.invariant in
    let count : c.in-Read.reading.count ≡ c.args.self.now.count = valid.place.count ∙ ap (λ (v : VisitState). v.count) c.self.view_is in
    subst (λ (n : ℕ). IfSome c.next.result (λ x. x < n)) count c.next.ensures.below
