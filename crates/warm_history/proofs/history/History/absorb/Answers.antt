use Rattle.std.proofs.Common.{◌≡◌, ap, subst, ◌∙◌}
use Rattle.warm_history.specs.Changes.{MarksChanged}
use Rattle.warm_history.specs.ReferenceSets.{set_of_list, ◌∪◌}
use Rattle.warm_history.specs.Histories.{HistoryView, entries_of, history_of_entries_at, references_of, history}
use Rattle.warm_history.specs.maps.KeptPairs.{kept}
use Rattle.warm_history.proofs.JoinLemmas.{history_first}
use Rattle.warm_history.proofs.ChangeLemmas.{nothing_changed}
use Rattle.warm_history.proofs.RaiseLemmas.{whole_of, absorbed_to, none_of}
use Rattle.warm_history.proofs.maps.KeptPairLemmas.{IsHistory-kept}
use Rattle.warm_history.proofs.history.History.absorb.Goals as goal

pub returns-clause-exact : goal.returns-clause-exact
returns-clause-exact c =
    let old = c.self.inside.maps in
    absorbed_to c.self.inside.horizon (kept old) (kept c.take_references.new.maps) c.args.batch.now (whole_of c.self.inside.horizon old c.self.invariant.0 c.self.invariant.1) c.in_ok-changed.ensures.exact
    ∙ ap (λ (h : HistoryView). history (references_of h ∪ set_of_list c.args.batch.now)) c.self.view_is

pub invariant_of-self-2 : goal.invariant_of-self-2
invariant_of-self-2 c = (c.take_references.ensures.whole, none_of c.self.inside.horizon (kept c.take_references.new.maps) _ (returns-clause-exact c))

pub returns-clause-ok : goal.returns-clause-ok
returns-clause-ok c S stands = returns-clause-exact c ∙ ap (λ (h : HistoryView). history (references_of h ∪ set_of_list c.args.batch.now)) stands ∙ history_first S (set_of_list c.args.batch.now)

pub returns-clause-changed : goal.returns-clause-changed
returns-clause-changed c = subst (λ (h : HistoryView). MarksChanged (entries_of h) (kept c.take_references.new.maps) c.in_ok-changed.changed) c.self.view_is c.in_ok-changed.ensures.changed

pub returns-clause-none : goal.returns-clause-none
returns-clause-none c none =
    let m = c.self.inside.horizon in
    let old = c.self.inside.maps in
    let new = c.take_references.new.maps in
    subst (λ (h : HistoryView). history_of_entries_at m (kept new) ≡ h) c.self.view_is
    (ap (history_of_entries_at m) (nothing_changed (kept old) (kept new) c.in_ok-changed.changed (IsHistory-kept old c.self.invariant.0).pages_ascend (IsHistory-kept new c.take_references.ensures.whole).pages_ascend c.in_ok-changed.ensures.changed none))
