use Rattle.std.proofs.Common.{◌≡◌, length, refl, sym, subst, ◌∙◌}
use Rattle.warm_visits.specs.Visits.{VisitState, offer_visit}
use Rattle.warm_visits.proofs.VisitErrands.{errands_are_own}
use Rattle.warm_concurrent.specs.Attached.{opened_id}
use Rattle.warm_concurrent.specs.Visiting.{GoneThrough}
use Rattle.warm_concurrent.proofs.EntryLemmas.{visits}
use Rattle.warm_concurrent.proofs.ReadLemmas.{offered_some}
use Rattle.warm_concurrent.proofs.shared.SharedShards.offer.Goals as goal

pub go_through-requires-clause-visit : goal.go_through-requires-clause-visit
go_through-requires-clause-visit g c κs within =
    let id = c.id.result in
    let n = c.count.result in
    visits (length c.args.self.now) n c.in-Ok.visit (offer_visit id n) c.count.ensures.value c.in-Ok.ensures refl (errands_are_own.offers id n) refl

pub unreachable-requires : goal.unreachable-requires
unreachable-requires g c =
    let old = c.args.attached.now.passes in
    let new = c.go_through.new.attached.passes in
    offered_some c.id.result c.count.result c.in-Ok.visit c.in_ok-after.after old new c.in-Ok.ensures c.in_ok-after.ensures.gone (sym c.in_default-offered.is ∙ c.offered.ensures)

pub returns-clause-offered : goal.returns-clause-offered
returns-clause-offered g c =
    let old = c.args.attached.now.passes in
    let new = c.go_through.new.attached.passes in
    let after = c.in_ok-after.after in
    let long : c.count.result ≡ length old = c.count.ensures.value ∙ sym c.requires.count in
    let at : c.in-Ok.visit ≡ offer_visit (opened_id c.args.self.now) (length old) = c.in-Ok.ensures ∙ (λ i. offer_visit (c.id.ensures.value i) (long i)) in
    (after, subst (λ (v : VisitState). GoneThrough v after old new) at c.in_ok-after.ensures.gone, sym c.offered.ensures ∙ c.in-Some.is)
