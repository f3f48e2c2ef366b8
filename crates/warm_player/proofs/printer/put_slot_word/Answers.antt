use Rattle.std.proofs.Common.{◌≡◌, ◌+◌, ◌-◌, refl, arith, ◌∙◌}
use Rattle.warm_player.proofs.HexDigitLemmas.{slot_word}
use Rattle.warm_player.proofs.printer.put_slot_word.Goals as goal

pub returns-clause-written : goal.returns-clause-written
returns-clause-written c =
    let line = c.args.line.now in
    let end : c.args.end - 5 + 5 ≡ c.args.end = omega (arith, c.requires.0) in
    slot_word line (c.args.end - 5) (omega (arith, c.requires.0, c.requires.1)) ∙ (rw end refl)
