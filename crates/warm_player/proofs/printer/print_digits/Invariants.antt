use Rattle.std.proofs.Common.{◌≡◌, ◌*◌, length, take}
use Rattle.std.specs.Prelude.{flat_map}
use Rattle.warm_player.specs.Answers.{byte_text}
use Rattle.warm_player.specs.declared.printer.TheConstants.{DIGITS}
use Rattle.warm_player.proofs.printer.print_digits.Given as goal

-- the digits of the bytes so far
abbrev pub invariant-loop-i : goal.invariant-loop-i
invariant-loop-i g l = record {
  size : length l.digits ≡ DIGITS;
  text : take (2 * l.i) l.digits ≡ flat_map byte_text (take l.i l.bytes);
}
