use Rattle.std.proofs.Common.{List, sym, subst}
use Rattle.warm_stamps.specs.declared.Reference.{Reference}
use Rattle.warm_history.specs.Entry.{Entry}
use Rattle.warm_history.specs.ReferenceSets.{set_of_list}
use Rattle.warm_history.specs.Histories.{history_of_entries_at, references_of}
use Rattle.warm_visits.specs.Given.{GivesOne}
use Rattle.warm_visits.specs.VisitParts.{part_at}
use Rattle.warm_visits.specs.declared.giving.Parts.{Parts}
use Rattle.warm_visits.proofs.GivenLemmas.{absorbs, joins}
use Rattle.warm_visits.proofs.giving.Parts.give.Goals as goal

pub returns-in-Batch : goal.returns-in-Batch
returns-in-Batch g c =
    let n = c.args.node.now in
    let m = c.absorb.new.self in
    subst (λ (p : Parts). GivesOne (part_at p c.args.shard) n c.absorb.result m) (sym c.in-Batch.is)
    (subst (λ (rs : List Reference). GivesOne (set_of_list rs) n c.absorb.result m) c.part.ensures
    (absorbs c.part.result.now n m c.absorb.result c.absorb.ensures.step c.absorb.ensures.devices))

pub returns-in-Entries : goal.returns-in-Entries
returns-in-Entries g c =
    let n = c.args.node.now in
    let m = c.join_entries.new.self in
    let horizon = c.in-Entries.horizon in
    subst (λ (p : Parts). GivesOne (part_at p c.args.shard) n c.join_entries.result m) (sym c.in-Entries.is)
    (subst (λ (es : List Entry). GivesOne (references_of (history_of_entries_at horizon es)) n c.join_entries.result m) c.part-in-Entries.ensures
    (joins horizon c.part-in-Entries.result.now n m c.join_entries.result c.join_entries.ensures.joined c.join_entries.ensures.refused c.join_entries.ensures.devices))
