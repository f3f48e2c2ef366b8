use Rattle.std.proofs.Common.{◌+◌, ◌*◌, arith, sym, ◌∙◌}
use Rattle.warm_player.proofs.NumberLemmas.{first_digits, digits_go_on, after_goes_on, no_digit_ahead, is_big, is_whole}
use Rattle.warm_player.proofs.fields.leading_number.Goals as goal

pub returns-in_err-first-clause-value : goal.returns-in_err-first-clause-value
returns-in_err-first-clause-value c = rw c.from_residual.ensures (no_digit_ahead c.args.limit c.args.text.now c.in_err-first.ensures.parts)

pub loop-digit-init : goal.loop-digit-init
loop-digit-init c = record {
  digits = rw c.from-number.ensures (first_digits c.in_ok-first.first c.args.text.now c.in_ok-first.rest.now c.in_ok-first.ensures.bound c.in_ok-first.ensures.parts);
  after = sym (after_goes_on c.in_ok-first.first c.args.text.now c.in_ok-first.rest.now c.in_ok-first.ensures.bound c.in_ok-first.ensures.parts);
}

pub returns-in_err-number-clause-value : goal.returns-in_err-number-clause-value
returns-in_err-number-clause-value c =
    let so_far = sym (digits_go_on c.loop-digit.number c.in-Some.digit c.loop-digit.rest.now c.in-Some.after.now c.in-Some.ensures.bound c.in-Some.ensures.parts) ∙ c.loop-digit.invariant.digits in
    rw c.from_residual-in_err-number.ensures (is_big c.args.limit (10 * c.loop-digit.number + c.in-Some.digit) c.args.text.now c.in-Some.after.now (omega arith) so_far)

pub loop-digit-preserved : goal.loop-digit-preserved
loop-digit-preserved c = record {
  digits = rw c.in_ok-number.ensures (sym (digits_go_on c.loop-digit.number c.in-Some.digit c.loop-digit.rest.now c.in-Some.after.now c.in-Some.ensures.bound c.in-Some.ensures.parts) ∙ c.loop-digit.invariant.digits);
  after = sym (after_goes_on c.in-Some.digit c.loop-digit.rest.now c.in-Some.after.now c.in-Some.ensures.bound c.in-Some.ensures.parts) ∙ c.loop-digit.invariant.after;
}

pub returns-then-number-limit-clause-value : goal.returns-then-number-limit-clause-value
returns-then-number-limit-clause-value c = is_big c.args.limit c.loop-digit.number c.args.text.now c.loop-digit.rest.now c.if-number-limit.true c.loop-digit.invariant.digits

pub returns-clause-value : goal.returns-clause-value
returns-clause-value c = is_whole c.args.limit c.loop-digit.number c.args.text.now c.loop-digit.rest.now c.in_default.ensures.parts c.if-number-limit.false c.loop-digit.invariant.digits c.loop-digit.invariant.after
