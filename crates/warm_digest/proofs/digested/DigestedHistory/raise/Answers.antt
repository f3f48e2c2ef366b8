use Rattle.std.proofs.Common.{◌≡◌, ap, subst, sym, ◌∙◌}
use Rattle.warm_history.specs.Changes.{MarksChanged}
use Rattle.warm_history.specs.Histories.{HistoryView, entries_of}
use Rattle.warm_digest.specs.CachedDigests.{DigestedView, MarksChanges}
use Rattle.warm_digest.proofs.CachedLemmas.{kept_as_marked}
use Rattle.warm_digest.proofs.MarkLemmas.{marks_changes}
use Rattle.warm_digest.proofs.digested.DigestedHistory.raise.Goals as goal

pub invariant_of-self : goal.invariant_of-self
invariant_of-self c =
    let es = entries_of c.self.inside.history in
    let lost = c.losing-lost.result in
    kept_as_marked es (entries_of c.raise.new.self) c.self.inside.changed lost c.union-self-inside.result c.self.inside.digests c.union-self-inside.ensures c.self.invariant
    (subst (λ (h : HistoryView). MarksChanged es (entries_of h) lost) (sym c.raise.ensures.exact) c.losing-lost.ensures.lost)

pub returns-clause-changed : goal.returns-clause-changed
returns-clause-changed c =
    let es = entries_of c.self.inside.history in
    let lost = c.losing-lost.result in
    subst (λ (v : DigestedView). MarksChanged (entries_of v.history) (entries_of c.raise.new.self) lost) c.self.view_is
    (subst (λ (h : HistoryView). MarksChanged es (entries_of h) lost) (sym c.raise.ensures.exact) c.losing-lost.ensures.lost)

pub returns-clause-none : goal.returns-clause-none
returns-clause-none c none = subst (λ (v : DigestedView). entries_of c.raise.new.self ≡ entries_of v.history) c.self.view_is (ap entries_of c.raise.ensures.exact ∙ c.losing-lost.ensures.none none)

pub returns-clause-marks : goal.returns-clause-marks
returns-clause-marks c =
    let old = c.self.inside.changed in
    let es = entries_of c.self.inside.history in
    let g = c.raise.new.self in
    let lost = c.losing-lost.result in
    subst (λ (v : DigestedView). MarksChanges v (record { history = g; marked = c.union-self-inside.result })) c.self.view_is
    (marks_changes c.self.inside.history g old lost c.union-self-inside.result c.union-self-inside.ensures (subst (λ (h : HistoryView). MarksChanged es (entries_of h) lost) (sym c.raise.ensures.exact) c.losing-lost.ensures.lost))
