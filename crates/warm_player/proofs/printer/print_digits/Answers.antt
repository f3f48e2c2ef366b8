use Rattle.std.proofs.Common.{◌+◌, ◌*◌, ◌∙◌, arith}
use Rattle.std.proofs.Math.ListN.{set, length-set}
use Rattle.warm_player.proofs.HexDigitLemmas.{digits_more}
use Rattle.warm_player.proofs.printer.print_digits.Goals as goal

pub loop-i-preserved : goal.loop-i-preserved
loop-i-preserved g c =
    let digits = c.loop-i.digits in
    let i = c.loop-i.i in
    let high = c.hex_digit.result in
    let low = c.hex_digit-in-loop-i.result in
    let so_far = c.loop-i.invariant in
    record {
      size = length-set (set digits (2 * i) high) (2 * i + 1) low ∙ length-set digits (2 * i) high ∙ so_far.size;
      text = digits_more digits c.args.bytes.now i high low (omega (arith, so_far.size, c.loop-i-test.true, c.requires)) c.loop-i-test.true
          c.hex_digit.ensures c.hex_digit-in-loop-i.ensures so_far.text;
    }
