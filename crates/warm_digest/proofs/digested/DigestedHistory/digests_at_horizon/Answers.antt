use Rattle.std.proofs.Common.{◌≡◌, ◌≤◌, IfOk, subst, sym, arith}
use Rattle.warm_history.specs.Histories.{HistoryView, entries_of}
use Rattle.warm_history.specs.Losses.{raised}
use Rattle.warm_history.proofs.JoinLemmas.{raised_to_no_later}
use Rattle.warm_digest.specs.BucketDigests.{digests_of, digests_at_horizon}
use Rattle.warm_digest.specs.CachedDigests.{DigestedView, StaysMarked}
use Rattle.warm_digest.proofs.CachedLemmas.{all_at_horizon, others_right}
use Rattle.warm_digest.proofs.MarkLemmas.{losing_stay, none_stay_if}
use Rattle.warm_digest.proofs.digested.DigestedHistory.digests_at_horizon.Goals as goal

pub invariant_of-self-2 : goal.invariant_of-self-2
invariant_of-self-2 c =
    others_right c.self.inside.changed c.losing-lost.result c.difference.result c.intersection-self-inside.result (entries_of c.self.inside.history) c.self.inside.digests c.renew.new.self (omega arith) c.difference.ensures c.intersection-self-inside.ensures c.self.invariant c.in_ok-renew.ensures.wanted c.in_ok-renew.ensures.others

pub returns-clause-table : goal.returns-clause-table
returns-clause-table c =
    let given = c.in_ok-table in
    subst (λ (v : DigestedView). given.table ≡ digests_at_horizon c.args.horizon v.history) c.self.view_is
    (all_at_horizon c.self.inside.changed c.losing-lost.result c.intersection-self-inside.result c.args.horizon c.self.inside.history c.renew.new.self given.table given.ensures.count c.intersection-self-inside.ensures (invariant_of-self-2 c) c.losing-lost.ensures.lost given.ensures.wanted given.ensures.others)

-- at no later horizon than its own a history is raised to itself
pub returns-then-horizon-clause-table : goal.returns-then-horizon-clause-table
returns-then-horizon-clause-table c =
    let no_later : c.args.horizon ≤ c.self.inside.history.horizon = omega (arith, c.if-horizon.true, c.horizon.ensures.value) in
    let same : raised c.args.horizon c.args.self.now.history ≡ c.args.self.now.history =
    subst (λ (v : DigestedView). raised c.args.horizon v.history ≡ v.history) c.self.view_is (raised_to_no_later c.self.inside.history c.args.horizon c.horizon.ensures.whole no_later) in
    subst (λ (h : HistoryView). IfOk c.digests.result (λ table. table ≡ digests_of (entries_of h))) (sym same) c.digests.ensures.table

pub returns-then-horizon-clause-marks : goal.returns-then-horizon-clause-marks
returns-then-horizon-clause-marks c =
    let no_later : c.args.horizon ≤ c.self.inside.history.horizon = omega (arith, c.if-horizon.true, c.horizon.ensures.value) in
    let same : raised c.args.horizon c.args.self.now.history ≡ c.args.self.now.history =
    subst (λ (v : DigestedView). raised c.args.horizon v.history ≡ v.history) c.self.view_is (raised_to_no_later c.self.inside.history c.args.horizon c.horizon.ensures.whole no_later) in
    none_stay_if c.digests.result c.args.horizon c.args.self.now.history c.args.self.now.marked c.digests.new.self.marked same c.digests.ensures.renewed

pub returns-clause-marks : goal.returns-clause-marks
returns-clause-marks c =
    let old = c.self.inside.changed in
    let lost = c.losing-lost.result in
    subst (λ (v : DigestedView). StaysMarked c.args.horizon v.history v.marked c.intersection-self-inside.result) c.self.view_is
    (losing_stay c.args.horizon c.self.inside.history old lost c.intersection-self-inside.result c.intersection-self-inside.ensures c.losing-lost.ensures.lost)
