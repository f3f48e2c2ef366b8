use Rattle.std.proofs.Common.{List, ap, arith, length}
use Rattle.std.proofs.lemmas.List.{length-append}
use Rattle.warm_maps.specs.declared.hist.Entry.{Entry}
use Rattle.warm_history.proofs.SinceLemmas.{taken_all, taken_enough, taken_more}
use Rattle.warm_history.proofs.since.first_since.Goals as goal

pub loop-ahead-preserved : goal.loop-ahead-preserved
loop-ahead-preserved c = record {
  goes_on = rw c.in_ok-push-in-Some.ensures.items (taken_more _ _ _ _ _ c.loop-ahead.invariant.goes_on c.in-Some.ensures.steps);
  few = omega (arith, c.loop-ahead-test.true, c.len.ensures, simp length-append at (ap (λ (es : List Entry). length es) c.in_ok-push-in-Some.ensures.items));
}

pub returns-in-None-clause-first : goal.returns-in-None-clause-first
returns-in-None-clause-first c = (taken_all c.args.limit _ _ _ _ c.loop-ahead.invariant.goes_on c.in-None.ensures.steps.0 c.in-None.ensures.steps.1 c.loop-ahead.invariant.few).0

pub returns-in-None-clause-rest : goal.returns-in-None-clause-rest
returns-in-None-clause-rest c = (taken_all c.args.limit _ _ _ _ c.loop-ahead.invariant.goes_on c.in-None.ensures.steps.0 c.in-None.ensures.steps.1 c.loop-ahead.invariant.few).1

pub returns-clause-first : goal.returns-clause-first
returns-clause-first c = (taken_enough c.args.limit c.loop-ahead.entries.items _ _ c.loop-ahead.invariant.goes_on (omega (arith, c.loop-ahead-test.false, c.len.ensures, c.loop-ahead.invariant.few))).0

pub returns-clause-rest : goal.returns-clause-rest
returns-clause-rest c = (taken_enough c.args.limit c.loop-ahead.entries.items _ _ c.loop-ahead.invariant.goes_on (omega (arith, c.loop-ahead-test.false, c.len.ensures, c.loop-ahead.invariant.few))).1
