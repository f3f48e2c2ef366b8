use Rattle.std.proofs.Common.{◌≡◌, length}
use Rattle.warm_player.specs.Fields.{digits_after, number_of}
use Rattle.warm_player.specs.TextHeads.{leading_digits, after_digits}
use Rattle.warm_player.proofs.fields.leading_number.Given as goal

-- what follows goes on with the number so far
abbrev pub invariant-loop-digit : goal.invariant-loop-digit
invariant-loop-digit l = record {
  digits : digits_after l.number (leading_digits l.rest) ≡ number_of (leading_digits l.text);
  after : after_digits l.rest ≡ after_digits l.text;
}

abbrev pub decreases-loop-digit : goal.decreases-loop-digit
decreases-loop-digit l = length l.rest
