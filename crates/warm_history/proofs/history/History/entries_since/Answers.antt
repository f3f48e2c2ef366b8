use Rattle.std.proofs.Common.{◌≡◌, ◌<◌, IsTrue, List, ap, arith, length, subst, sym, take, ◌∙◌}
use Rattle.std.specs.Prelude.{◌↔◌, IfOk}
use Rattle.std.proofs.lemmas.List.{length-take}
use Rattle.std.proofs.lemmas.Result.{IfOk-weaker}
use Rattle.warm_maps.specs.declared.hist.Entry.{Entry}
use Rattle.warm_history.specs.Histories.{HistoryView, IsHistory, entries_of, references_of}
use Rattle.warm_history.specs.Since.{carried_since, entries_since, recent_entries}
use Rattle.warm_history.proofs.CarriedLemmas.{history_alone}
use Rattle.warm_history.proofs.JoinLemmas.{history_of_own_references}
use Rattle.warm_history.proofs.RaiseLemmas.{whole_of}
use Rattle.warm_history.proofs.SinceLemmas.{history-since}
use Rattle.warm_history.proofs.history.History.entries_since.Goals as goal

pub returns-clause-first : goal.returns-clause-first
returns-clause-first c = subst (λ es. IfOk c.portion_since.result (λ portion. portion.entries.items ≡ take c.args.limit (recent_entries c.args.since es))) c.later.ensures c.portion_since.ensures.first

pub returns-clause-more : goal.returns-clause-more
returns-clause-more c = subst (λ es. IfOk c.portion_since.result (λ portion. IsTrue portion.more ↔ c.args.limit < length (recent_entries c.args.since es))) c.later.ensures c.portion_since.ensures.more

pub returns-clause-carried : goal.returns-clause-carried
returns-clause-carried c = IfOk-weaker c.portion_since.result _ _ (λ portion is S stands.
    is
    ∙ ap (λ es. take c.args.limit (recent_entries c.args.since es)) c.later.ensures
    ∙ ap (λ (h : HistoryView). take c.args.limit (entries_since c.args.bucket c.args.since c.args.after (entries_of h))) stands
    ∙ history-since S c.args.bucket c.args.since c.args.after c.args.limit) c.portion_since.ensures.first

pub returns-clause-whole : goal.returns-clause-whole
returns-clause-whole c =
    let whole : IsHistory c.args.self.now = subst IsHistory c.self.view_is (whole_of c.self.inside.horizon c.self.inside.maps c.self.invariant.0 c.self.invariant.1) in
    let S = references_of c.args.self.now in
    IfOk-weaker c.portion_since.result _ _
    (λ portion are. history_alone portion.entries.items (carried_since S c.args.bucket c.args.since c.args.after c.args.limit) (are S (sym (history_of_own_references c.args.self.now whole))))
    (returns-clause-carried c)

pub returns-clause-limited : goal.returns-clause-limited
returns-clause-limited c = IfOk-weaker c.portion_since.result _ _
    (λ portion is. omega (arith, ap (λ (es : List Entry). length es) is, length-take c.args.limit (recent_entries c.args.since c.later.result)))
    c.portion_since.ensures.first
