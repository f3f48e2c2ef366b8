use Rattle.std.proofs.Common.{◌≡◌, [], None, false, sym, ap, subst, ◌∙◌}
use Rattle.std.specs.Prelude.{IfOk}
use Rattle.warm_history.specs.Histories.{history_of_entries_at, references_of}
use Rattle.warm_visits.specs.VisitParts.{IsReader, visit_of}
use Rattle.warm_visits.specs.declared.visit.Work.TheVariants.{Read}
use Rattle.warm_visits.specs.Visits.{VisitState, answered, at_each, compares, ends, give_visit, nothing_offered, offering, receive_visit, send_plan}
use Rattle.warm_visits.proofs.ErrandLemmas.{some_count}
use Rattle.warm_visits.proofs.VisitEntries.{reader_of, reads_begun}
use Rattle.warm_visits.proofs.visit.Visit.receive.Goals as goal

pub returns-in-Entries : goal.returns-in-Entries
returns-in-Entries c =
    let id = c.args.id in
    let count = c.args.count in
    let horizon = c.in-Entries.horizon in
    let same = ap (λ es. give_visit id count (references_of (history_of_entries_at horizon es))) c.as_slice.ensures.value ∙ sym (ap (receive_visit id count) c.in-Entries.is) in
    subst (λ (v : VisitState). IfOk c.entries.result (λ visit. visit ≡ v)) same c.entries.ensures

pub compares-requires : goal.compares-requires
compares-requires c = some_count c.args.count c.requires

pub reads-requires-clause-reads : goal.reads-requires-clause-reads
reads-requires-clause-reads c =
    subst (λ (v : VisitState). IsReader c.args.id c.args.count v) (sym c.in_ok-reading-in-Digest.ensures) (reader_of c.args.id c.args.count (at_each c.args.count offering) nothing_offered (compares c.in-Digest.digests) tt)

pub returns-in_ok-reading-in-Digest : goal.returns-in_ok-reading-in-Digest
returns-in_ok-reading-in-Digest c =
    let id = c.args.id in
    let count = c.args.count in
    c.reads.ensures
    ∙ ap (λ (r : VisitState). visit_of id count c.in-Digest.horizon 0 count (Read r) None false) c.in_ok-reading-in-Digest.ensures
    ∙ reads_begun id count c.in-Digest.horizon (at_each count offering) nothing_offered (compares c.in-Digest.digests)
    ∙ sym (ap (receive_visit id count) c.in-Digest.is)

pub sends-reading-requires : goal.sends-reading-requires
sends-reading-requires c = some_count c.args.count c.requires

pub reads-requires-in-Want-clause-reads : goal.reads-requires-in-Want-clause-reads
reads-requires-in-Want-clause-reads c =
    subst (λ (v : VisitState). IsReader c.args.id c.args.count v) (sym c.sends-reading.ensures) (reader_of c.args.id c.args.count (send_plan c.args.count c.in-Want.request) (answered []) ends tt)

pub returns-in-Want : goal.returns-in-Want
returns-in-Want c =
    let id = c.args.id in
    let count = c.args.count in
    c.reads-in-Want.ensures
    ∙ ap (λ (r : VisitState). visit_of id count c.in-Want.horizon 0 count (Read r) None false) c.sends-reading.ensures
    ∙ reads_begun id count c.in-Want.horizon (send_plan count c.in-Want.request) (answered []) ends
    ∙ sym (ap (receive_visit id count) c.in-Want.is)
