use Rattle.std.proofs.Common.{◌≢◌, ◌≤◌, ◌<◌, ◌+◌, ℕ, None, Some, sym, subst, arith}
use Rattle.warm_gossip.specs.State.{NodeState}
use Rattle.warm_visits.specs.declared.visit.Work.{Work}
use Rattle.warm_visits.specs.declared.visit.Work.TheVariants.{Give}
use Rattle.warm_visits.specs.VisitParts.{IsVisit, visit_of}
use Rattle.warm_visits.specs.Visits.{HasEntered, VisitState, entries_left, next_shard}
use Rattle.warm_visits.proofs.VisitEntries.{enters_given, enters_raised, is_going, is_there}
use Rattle.warm_visits.proofs.visit.Visit.enter.Goals as goal

-- an entry, and that it brings the end nearer
abbrev Runs : VisitState → NodeState → VisitState → NodeState → Type 0
Runs v n w m = HasEntered v n w m × (entries_left w < entries_left v)

pub returns-then-self-clause-entered : goal.returns-then-self-clause-entered
returns-then-self-clause-entered g c =
    let s = c.self.inside in
    let well = is_going s.stopped (visit_of s.id s.count s.time s.rising s.shard s.work s.kept s.stopped).plan (subst (λ (v : VisitState). next_shard v ≢ None) (sym c.self.view_is) c.requires) in
    let w : ℕ → VisitState = λ h. visit_of s.id s.count s.time (s.rising + 1) s.shard s.work (Some h) s.stopped in
    let runs = enters_raised s.id s.count s.time s.rising s.shard c.raise-horizon.result s.work s.kept s.stopped c.args.node.now c.raise-horizon.new.self c.self.invariant c.if-self.true well c.raise-horizon.ensures.step c.raise-horizon.ensures.devices in
    (subst (λ (v : VisitState). Runs v c.args.node.now (w c.earlier_of.result) c.raise-horizon.new.self) c.self.view_is
    (subst (λ (h : ℕ). Runs (visit_of s.id s.count s.time s.rising s.shard s.work s.kept s.stopped) c.args.node.now (w h) c.raise-horizon.new.self) (sym c.earlier_of.ensures) runs)).0

pub returns-then-self-clause-shorter : goal.returns-then-self-clause-shorter
returns-then-self-clause-shorter g c =
    let s = c.self.inside in
    let well = is_going s.stopped (visit_of s.id s.count s.time s.rising s.shard s.work s.kept s.stopped).plan (subst (λ (v : VisitState). next_shard v ≢ None) (sym c.self.view_is) c.requires) in
    let w : ℕ → VisitState = λ h. visit_of s.id s.count s.time (s.rising + 1) s.shard s.work (Some h) s.stopped in
    let runs = enters_raised s.id s.count s.time s.rising s.shard c.raise-horizon.result s.work s.kept s.stopped c.args.node.now c.raise-horizon.new.self c.self.invariant c.if-self.true well c.raise-horizon.ensures.step c.raise-horizon.ensures.devices in
    (subst (λ (v : VisitState). Runs v c.args.node.now (w c.earlier_of.result) c.raise-horizon.new.self) c.self.view_is
    (subst (λ (h : ℕ). Runs (visit_of s.id s.count s.time s.rising s.shard s.work s.kept s.stopped) c.args.node.now (w h) c.raise-horizon.new.self) (sym c.earlier_of.ensures) runs)).1

pub returns-in_default-clause-entered : goal.returns-in_default-clause-entered
returns-in_default-clause-entered g c =
    let s = c.self.inside in
    let v : Work → VisitState = λ k. visit_of s.id s.count s.time s.rising s.shard k s.kept s.stopped in
    let w = visit_of s.id s.count s.time s.rising c.first-self-inside.result (Give c.in-Give.parts) s.kept s.stopped in
    let some = subst (λ (v : VisitState). next_shard v ≢ None) (sym c.self.view_is) c.requires in
    let well = is_going s.stopped (v s.work).plan some in
    let over : s.count ≤ s.rising = omega (arith, c.if-self.false) in
    let lt = is_there s.id s.count s.time s.rising s.shard c.in-Give.parts s.kept s.stopped c.self.invariant.within over well (subst (λ (k : Work). next_shard (v k) ≢ None) c.in-Give.is some) in
    let valid = subst (IsVisit s.id s.count s.rising s.shard) c.in-Give.is c.self.invariant in
    let runs = enters_given s.id s.count s.time s.rising s.shard c.first-self-inside.result c.in-Give.parts s.kept s.stopped c.args.node.now c.give.new.node valid over lt well c.in_default.ensures.given c.first-self-inside.ensures in
    (subst (λ (x : VisitState). Runs x c.args.node.now w c.give.new.node) c.self.view_is
    (subst (λ (k : Work). Runs (v k) c.args.node.now w c.give.new.node) (sym c.in-Give.is) runs)).0

pub returns-in_default-clause-shorter : goal.returns-in_default-clause-shorter
returns-in_default-clause-shorter g c =
    let s = c.self.inside in
    let v : Work → VisitState = λ k. visit_of s.id s.count s.time s.rising s.shard k s.kept s.stopped in
    let w = visit_of s.id s.count s.time s.rising c.first-self-inside.result (Give c.in-Give.parts) s.kept s.stopped in
    let some = subst (λ (v : VisitState). next_shard v ≢ None) (sym c.self.view_is) c.requires in
    let well = is_going s.stopped (v s.work).plan some in
    let over : s.count ≤ s.rising = omega (arith, c.if-self.false) in
    let lt = is_there s.id s.count s.time s.rising s.shard c.in-Give.parts s.kept s.stopped c.self.invariant.within over well (subst (λ (k : Work). next_shard (v k) ≢ None) c.in-Give.is some) in
    let valid = subst (IsVisit s.id s.count s.rising s.shard) c.in-Give.is c.self.invariant in
    let runs = enters_given s.id s.count s.time s.rising s.shard c.first-self-inside.result c.in-Give.parts s.kept s.stopped c.args.node.now c.give.new.node valid over lt well c.in_default.ensures.given c.first-self-inside.ensures in
    (subst (λ (x : VisitState). Runs x c.args.node.now w c.give.new.node) c.self.view_is
    (subst (λ (k : Work). Runs (v k) c.args.node.now w c.give.new.node) (sym c.in-Give.is) runs)).1
