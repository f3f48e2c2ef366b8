use Rattle.std.proofs.Common.{length, refl}
use Rattle.warm_visits.specs.Visits.{join_visit}
use Rattle.warm_visits.proofs.VisitErrands.{errands_are_own}
use Rattle.warm_concurrent.proofs.EntryLemmas.{visits}
use Rattle.warm_concurrent.proofs.shared.SharedShards.join.Goals as goal

pub go_through-requires-clause-visit : goal.go_through-requires-clause-visit
go_through-requires-clause-visit g c κs within =
    let id = c.id.result in
    let n = c.count.result in
    let h = c.args.other.now in
    visits (length c.args.self.now) n c.in-Ok.visit (join_visit id n h) c.count.ensures.value c.in-Ok.ensures refl (errands_are_own.joins id n h c.count.ensures.valid) refl
