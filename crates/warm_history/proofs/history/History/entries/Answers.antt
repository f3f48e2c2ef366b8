use Rattle.std.proofs.Common.{ap, sym, subst, ◌∙◌, take}
use Rattle.std.proofs.lemmas.Result.{IfOk-weaker}
use Rattle.warm_history.specs.Histories.{HistoryView, entries_of, references_of, IsHistory}
use Rattle.warm_history.specs.Carried.{carried, later_of_bucket}
use Rattle.warm_history.proofs.CarriedLemmas.{history-carried, history_alone}
use Rattle.warm_history.proofs.JoinLemmas.{history_of_own_references}
use Rattle.warm_history.proofs.RaiseLemmas.{whole_of}
use Rattle.warm_history.proofs.history.History.entries.Goals as goal

pub returns-clause-carried : goal.returns-clause-carried
returns-clause-carried c = IfOk-weaker c.first_entries.result _ _ (λ es is S stands.
    is
    ∙ ap (take c.args.limit) (c.later.ensures ∙ ap (λ (h : HistoryView). later_of_bucket c.args.bucket c.args.after (entries_of h)) stands)
    ∙ history-carried S c.args.bucket c.args.after c.args.limit) c.first_entries.ensures

pub returns-clause-whole : goal.returns-clause-whole
returns-clause-whole c =
    let whole : IsHistory c.args.self.now = subst IsHistory c.self.view_is (whole_of c.self.inside.horizon c.self.inside.maps c.self.invariant.0 c.self.invariant.1) in
    let S = references_of c.args.self.now in
    IfOk-weaker c.first_entries.result _ _
    (λ es are. history_alone es.items (carried S c.args.bucket c.args.after c.args.limit) (are S (sym (history_of_own_references c.args.self.now whole))))
    (returns-clause-carried c)
