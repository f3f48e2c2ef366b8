use Rattle.std.proofs.Common.{sym, subst, ◌∙◌}
use Rattle.warm_visits.specs.VisitParts.{IsReader}
use Rattle.warm_visits.specs.Visits.{VisitState, at_each, ends, nothing_offered, offer_visit, offering}
use Rattle.warm_visits.proofs.ErrandLemmas.{some_count}
use Rattle.warm_visits.proofs.VisitEntries.{reader_of, reads_only}
use Rattle.warm_visits.proofs.visit.Visit.offer.Goals as goal

pub offers-requires : goal.offers-requires
offers-requires c = some_count c.args.count c.requires

pub reads-requires-clause-reads : goal.reads-requires-clause-reads
reads-requires-clause-reads c =
    subst (λ (v : VisitState). IsReader c.args.id c.args.count v) (sym c.in_ok-reading.ensures) (reader_of c.args.id c.args.count (at_each c.args.count offering) nothing_offered ends tt)

pub returns : goal.returns
returns c =
    c.reads.ensures ∙ reads_only c.args.id c.args.count 0 c.in_ok-reading.reading (offer_visit c.args.id c.args.count) c.in_ok-reading.ensures (reader_of c.args.id c.args.count (at_each c.args.count offering) nothing_offered ends tt)
