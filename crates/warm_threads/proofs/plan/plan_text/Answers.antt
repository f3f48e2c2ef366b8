use Rattle.std.proofs.Common.{◌≡◌, List, ℕ, [], ◌∷◌, ◌++◌, length, length-append, ap, sym, subst, ◌∙◌, arith}
use Rattle.warm_player.specs.Text.{lines}
use Rattle.warm_player.proofs.StreamLemmas.{line_ends, line_last}
use Rattle.warm_threads.specs.declared.ask.Ask.{Ask}
use Rattle.warm_threads.specs.Asks.{asked, asks, bad_from, with_ask}
use Rattle.warm_threads.specs.Plans.{ArePlansOf}
use Rattle.warm_threads.proofs.AskLemmas.{asks_then, good_here, line_fault, passed_on}
use Rattle.warm_threads.proofs.plan.plan_text.Goals as goal

pub loop-line-preserved : goal.loop-line-preserved
loop-line-preserved c =
    let s = c.args.setup in
    let n = c.loop-line.number in
    let line = c.in-Some.line.now in
    let after = c.in-Some.after.now in
    let before = c.loop-line.invariant.planned.0 in
    let parted : lines c.loop-line.rest.now ≡ line ∷ lines after = ap lines c.in-Some.ensures.parts ∙ line_ends line after c.in-Some.ensures.line in
    record {
      bad = c.loop-line.invariant.bad ∙ (ap (bad_from s n) parted ∙ good_here s n line (lines after) c.in_ok-take_line.ensures.good);
      number = omega (arith, c.loop-line.invariant.number, ap (λ (xs : List ℕ). length xs) c.in-Some.ensures.parts, length-append line (10 ∷ after));
      shape = c.in_ok-take_line.ensures.shape;
      planned = (
        before ++ with_ask (asked s line) [],
        c.in_ok-take_line.ensures.adds before c.loop-line.invariant.planned.1,
        asks_then s before _ line (lines after) (c.loop-line.invariant.planned.2 ∙ ap (λ (ls : List (List ℕ)). before ++ asks s ls) parted),
      );
    }

pub returns-in_err-take_line-clause-bad : goal.returns-in_err-take_line-clause-bad
returns-in_err-take_line-clause-bad c =
    let s = c.args.setup in
    let n = c.loop-line.number in
    let line = c.in-Some.line.now in
    let after = c.in-Some.after.now in
    let parted : lines c.loop-line.rest.now ≡ line ∷ lines after = ap lines c.in-Some.ensures.parts ∙ line_ends line after c.in-Some.ensures.line in
    passed_on c.from_residual-in_err-take_line.result c.in_err-take_line.field-0.0 _ c.from_residual-in_err-take_line.ensures.1
    (line_fault s _ n line (lines after) _ (c.loop-line.invariant.bad ∙ ap (bad_from s n) parted) c.in_err-take_line.ensures.bad)

pub returns-clause-plans : goal.returns-clause-plans
returns-clause-plans c =
    let s = c.args.setup in
    let before = c.loop-line.invariant.planned.0 in
    let last = line_last c.loop-line.rest.now c.in_default.ensures.line in
    let all : asks s (lines c.args.text.now) ≡ before ++ with_ask (asked s c.loop-line.rest.now) [] = c.loop-line.invariant.planned.2 ∙ ap (λ (ls : List (List ℕ)). before ++ asks s ls) last in
    subst (λ (asked : List Ask). ArePlansOf s asked c.take_line-2.new.plans.items) (sym all) (c.in_ok-take_line-2.ensures.adds before c.loop-line.invariant.planned.1)

pub returns-clause-good : goal.returns-clause-good
returns-clause-good c =
    let s = c.args.setup in
    let n = c.loop-line.number in
    let rest = c.loop-line.rest.now in
    c.loop-line.invariant.bad ∙ (ap (bad_from s n) (line_last rest c.in_default.ensures.line) ∙ good_here s n rest [] c.in_ok-take_line-2.ensures.good)

pub returns-in_err-take_line-2-clause-bad : goal.returns-in_err-take_line-2-clause-bad
returns-in_err-take_line-2-clause-bad c =
    let s = c.args.setup in
    let n = c.loop-line.number in
    let rest = c.loop-line.rest.now in
    passed_on c.from_residual-in_err-take_line-2.result c.in_err-take_line-2.field-0.0 _ c.from_residual-in_err-take_line-2.ensures.1
    (line_fault s _ n rest [] _ (c.loop-line.invariant.bad ∙ ap (bad_from s n) (line_last rest c.in_default.ensures.line)) c.in_err-take_line-2.ensures.bad)
