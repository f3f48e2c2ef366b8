use Rattle.std.proofs.Common.{◌≡◌, ap, subst, sym, ◌∙◌, arith, ◌≤◌}
use Rattle.warm_history.specs.Changes.{MarksChanged}
use Rattle.warm_history.specs.Losses.{MarksLosing}
use Rattle.warm_history.specs.ReferenceSets.{◌∪◌}
use Rattle.warm_history.specs.ListHistories.{list_references_of}
use Rattle.warm_history.specs.Histories.{HistoryView, entries_of, history_of_entries_at, references_of, history}
use Rattle.warm_history.specs.maps.KeptPairs.{kept}
use Rattle.warm_history.proofs.JoinLemmas.{history_first}
use Rattle.warm_history.proofs.ChangeLemmas.{marks_cut, nothing_changed}
use Rattle.warm_history.proofs.RaiseLemmas.{none_taken, joined_to, none_of, whole_of}
use Rattle.warm_history.proofs.maps.KeptPairLemmas.{IsHistory-kept}
use Rattle.warm_history.proofs.history.History.join_entries.Goals as goal

-- nothing that was taken in is older than the horizon
pub raise-self-inside-requires-clause-recent : goal.raise-self-inside-requires-clause-recent
raise-self-inside-requires-clause-recent c =
    let m = c.max-horizon.result in
    let le : c.self.inside.horizon ≤ m = omega (arith, c.max-horizon.ensures) in
    none_taken c.self.inside.horizon m (kept c.self.inside.maps) (kept c.take_entries.new.maps) (list_references_of c.args.more.now) le c.self.invariant.1 c.in_ok-changed.ensures.exact

pub returns-clause-exact : goal.returns-clause-exact
returns-clause-exact c =
    joined_to c.self.inside.horizon (c.args.horizon) c.max-horizon.result c.raise-self-inside.result (kept c.self.inside.maps) (kept c.take_entries.new.maps) (kept c.raise-self-inside.new.maps) (list_references_of c.args.more.now) c.max-horizon.ensures c.raise-self-inside.ensures.later c.in_ok-changed.ensures.exact c.raise-self-inside.ensures.cut
    ∙ ap (λ (h : HistoryView). history (references_of h ∪ references_of (history_of_entries_at (c.args.horizon) c.args.more.now))) c.self.view_is

pub invariant_of-self-2 : goal.invariant_of-self-2
invariant_of-self-2 c = (c.raise-self-inside.ensures.whole, none_of c.raise-self-inside.result (kept c.raise-self-inside.new.maps) _ (returns-clause-exact c))

pub returns-clause-ok : goal.returns-clause-ok
returns-clause-ok c S stands = returns-clause-exact c ∙ ap (λ (h : HistoryView). history (references_of h ∪ references_of (history_of_entries_at c.args.horizon c.args.more.now))) stands ∙ history_first S (references_of (history_of_entries_at c.args.horizon c.args.more.now))

pub returns-clause-changed : goal.returns-clause-changed
returns-clause-changed c =
    let a = c.self.inside.horizon in
    let old = c.self.inside.maps in
    let lost = c.losing-lost.result in
    let loses : MarksLosing (c.args.horizon) (history_of_entries_at a (kept old)) lost = subst (λ (h : HistoryView). MarksLosing (c.args.horizon) h lost) (sym c.self.view_is) c.losing-lost.ensures.lost in
    subst (λ (h : HistoryView). MarksChanged (entries_of h) (kept c.raise-self-inside.new.maps) c.union.result) c.self.view_is
    (subst (MarksChanged (kept old) (kept c.raise-self-inside.new.maps)) (sym c.union.ensures)
    (marks_cut a (c.args.horizon) c.max-horizon.result c.raise-self-inside.result (kept old) (kept c.take_entries.new.maps) (kept c.raise-self-inside.new.maps) (list_references_of c.args.more.now) c.in_ok-changed.changed lost
    (whole_of a old c.self.invariant.0 c.self.invariant.1) c.max-horizon.ensures c.raise-self-inside.ensures.later c.in_ok-changed.ensures.exact c.raise-self-inside.ensures.cut c.in_ok-changed.ensures.changed loses))

pub returns-clause-none : goal.returns-clause-none
returns-clause-none c none =
    let old = c.self.inside.maps in
    let new = c.raise-self-inside.new.maps in
    let marks = subst (λ (h : HistoryView). MarksChanged (entries_of h) (kept new) c.union.result) (sym c.self.view_is) (returns-clause-changed c) in
    subst (λ (h : HistoryView). kept new ≡ entries_of h) c.self.view_is
    (nothing_changed (kept old) (kept new) _ (IsHistory-kept old c.self.invariant.0).pages_ascend (IsHistory-kept new c.raise-self-inside.ensures.whole).pages_ascend marks none)
