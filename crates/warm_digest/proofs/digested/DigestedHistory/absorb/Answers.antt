use Rattle.std.proofs.Common.{◌≡◌, subst}
use Rattle.warm_history.specs.Changes.{MarksChanged}
use Rattle.warm_history.specs.Histories.{entries_of}
use Rattle.warm_digest.specs.CachedDigests.{DigestedView, MarksChanges}
use Rattle.warm_digest.proofs.CachedLemmas.{kept_as_marked}
use Rattle.warm_digest.proofs.MarkLemmas.{marks_changes}
use Rattle.warm_digest.proofs.digested.DigestedHistory.absorb.Goals as goal

pub invariant_of-self-2 : goal.invariant_of-self-2
invariant_of-self-2 c =
    kept_as_marked (entries_of c.self.inside.history) (entries_of c.absorb.new.self) c.self.inside.changed c.in_ok-changed.changed c.union-self-inside.result c.self.inside.digests c.union-self-inside.ensures c.self.invariant c.in_ok-changed.ensures.changed

pub returns-clause-changed : goal.returns-clause-changed
returns-clause-changed c =
    subst (λ (v : DigestedView). MarksChanged (entries_of v.history) (entries_of c.absorb.new.self) c.in_ok-changed.changed) c.self.view_is c.in_ok-changed.ensures.changed

pub returns-clause-none : goal.returns-clause-none
returns-clause-none c none = subst (λ (v : DigestedView). c.absorb.new.self ≡ v.history) c.self.view_is (c.in_ok-changed.ensures.none none)

pub returns-clause-marks : goal.returns-clause-marks
returns-clause-marks c =
    let old = c.self.inside.changed in
    let g = c.absorb.new.self in
    let changed = c.in_ok-changed.changed in
    subst (λ (v : DigestedView). MarksChanges v (record { history = g; marked = c.union-self-inside.result })) c.self.view_is
    (marks_changes c.self.inside.history g old changed c.union-self-inside.result c.union-self-inside.ensures c.in_ok-changed.ensures.changed)
