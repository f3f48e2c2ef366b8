use Rattle.std.proofs.Common.{◌≡◌, inr, length, sym, subst, ◌∙◌}
use Rattle.warm_visits.specs.Visits.{VisitState, receive_visit}
use Rattle.warm_visits.proofs.VisitErrands.{errands_are_own}
use Rattle.warm_concurrent.specs.Attached.{opened_id}
use Rattle.warm_concurrent.specs.Visiting.{GoneThrough}
use Rattle.warm_concurrent.proofs.EntryLemmas.{received_count, received_well, visits}
use Rattle.warm_concurrent.proofs.shared.SharedShards.receive.Goals as goal

pub go_through-requires-clause-visit : goal.go_through-requires-clause-visit
go_through-requires-clause-visit g c κs within =
    let id = c.id.result in
    let n = c.count-count.result in
    let m = c.args.message.now in
    visits (length c.args.self.now) n c.in-Ok.visit (receive_visit id n m) c.count-count.ensures.value c.in-Ok.ensures (received_count id n m) (errands_are_own.receives id n m c.count-count.ensures.valid) (received_well id n m)

pub returns-in_default-into_answers-clause-stopped :
    goal.returns-in_default-into_answers-clause-stopped
returns-in_default-into_answers-clause-stopped g c =
    let old = c.args.attached.now.passes in
    let new = c.go_through.new.attached.passes in
    let after = c.in_ok-after.after in
    let m = c.args.message.now in
    let long : c.count-count.result ≡ length old = c.count-count.ensures.value ∙ sym c.requires.count in
    let at : c.in-Ok.visit ≡ receive_visit (opened_id c.args.self.now) (length old) m = c.in-Ok.ensures ∙ (λ i. receive_visit (c.id.ensures.value i) (long i) m) in
    inr (c.after_all.ensures.stage, c.after_all.ensures.shard ∙ long, c.after_all.ensures.fault, (after, subst (λ (v : VisitState). GoneThrough v after old new) at c.in_ok-after.ensures.gone))

pub returns-clause-received : goal.returns-clause-received
returns-clause-received g c =
    let old = c.args.attached.now.passes in
    let new = c.go_through.new.attached.passes in
    let after = c.in_ok-after.after in
    let m = c.args.message.now in
    let long : c.count-count.result ≡ length old = c.count-count.ensures.value ∙ sym c.requires.count in
    let at : c.in-Ok.visit ≡ receive_visit (opened_id c.args.self.now) (length old) m = c.in-Ok.ensures ∙ (λ i. receive_visit (c.id.ensures.value i) (long i) m) in
    (after, subst (λ (v : VisitState). GoneThrough v after old new) at c.in_ok-after.ensures.gone, c.in-Ok-into_answers.ensures)
