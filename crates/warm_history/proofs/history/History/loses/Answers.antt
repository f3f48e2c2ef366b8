use Rattle.std.proofs.Common.{◌≡◌, ◌≤◌, Bool, true, false, not, refl, subst, sym, arith}
use Rattle.warm_history.specs.Histories.{HistoryView, IsHistory, NoneOlder}
use Rattle.warm_history.proofs.RaiseLemmas.{whole_of}
use Rattle.warm_history.proofs.HorizonLemmas.{keeps_all, keeps_recent, loses_older}
use Rattle.warm_history.proofs.history.History.loses.Goals as goal

from_not : (b : Bool) → not b ≡ false → b ≡ true
from_not true is = refl
from_not false is = absurd (cc)

never_both : (b : Bool) → not b ≡ true → b ≡ true → ⊥
never_both true is found = cc
never_both false is found = cc

pub returns-then-horizon-self-clause-keeps : goal.returns-then-horizon-self-clause-keeps
returns-then-horizon-self-clause-keeps c kept =
    let whole = subst IsHistory c.self.view_is (whole_of c.self.inside.horizon c.self.inside.maps c.self.invariant.0 c.self.invariant.1) in
    keeps_all c.args.self.now c.args.horizon c.args.bucket whole (subst (λ (h : HistoryView). c.args.horizon ≤ h.horizon) c.self.view_is c.if-horizon-self.true)

pub returns-clause-loses : goal.returns-clause-loses
returns-clause-loses c lost =
    let whole = subst IsHistory c.self.view_is (whole_of c.self.inside.horizon c.self.inside.maps c.self.invariant.0 c.self.invariant.1) in
    let past = subst (λ (h : HistoryView). h.horizon ≤ c.args.horizon) c.self.view_is (omega (arith, c.if-horizon-self.false)) in
    loses_older c.args.self.now c.args.horizon c.args.bucket whole past
    (λ none. never_both c.none_older.result lost (c.none_older.ensures.1 (subst (NoneOlder c.args.horizon) (sym c.bucket.ensures) none)))

pub returns-clause-keeps : goal.returns-clause-keeps
returns-clause-keeps c kept =
    let whole = subst IsHistory c.self.view_is (whole_of c.self.inside.horizon c.self.inside.maps c.self.invariant.0 c.self.invariant.1) in
    let past = subst (λ (h : HistoryView). h.horizon ≤ c.args.horizon) c.self.view_is (omega (arith, c.if-horizon-self.false)) in
    keeps_recent c.args.self.now c.args.horizon c.args.bucket whole past
    (subst (NoneOlder c.args.horizon) c.bucket.ensures (c.none_older.ensures.0 (from_not c.none_older.result kept)))
