use Rattle.std.proofs.Common.{◌≡◌, [], eqb-true, refl, sym, ◌∙◌, vec_len, arith}
use Rattle.std.proofs.lemmas.List.{nil_from_length}
use Rattle.warm_gossip.proofs.PassedLemmas.{passes_current, passes_none}
use Rattle.warm_gossip.proofs.warm_step.passed_at_fill.Goals as goal

-- pages of the list may have risen
pub returns-then-not-is_empty : goal.returns-then-not-is_empty
returns-then-not-is_empty c = rw c.in-Some.is (passes_none c.args.history.now c.args.warm_up.now c.args.page c.in-Some.evicted 0 refl)

pub returns-in-Some-list : goal.returns-in-Some-list
returns-in-Some-list c =
    let x = c.args.warm_up.now in
    let current : x.changed.items ≡ [] = nil_from_length x.changed.items (omega (arith, x.changed.ok.0, eqb-true (vec_len x.changed) 0 (sym c.is_empty.ensures ∙ c.if-not-is_empty.false))) in
    rw c.in-Some.is (passes_current c.args.history.now x c.args.page c.in-Some.evicted c.passed_at_next.result c.in-Some-list.list c.in-Some-list.is current c.passed_at_next.ensures)

pub returns-in-None : goal.returns-in-None
returns-in-None c = rw c.in-Some.is (passes_none c.args.history.now c.args.warm_up.now c.args.page c.in-Some.evicted 0 refl)
