use Rattle.std.proofs.Common.{◌≡◌, ◌≤◌, ◌+◌, ◌-◌, ◌∷◌, ◌++◌, ℕ, List, [], length, drop, decimal, arith, rules, set, ap, subst, ◌∙◌, OnOk}
use Rattle.std.specs.Prelude.{codes}
use Rattle.std.proofs.lemmas.Fmt.{length-decimal-le}
use Rattle.std.proofs.lemmas.List.{drop-set, length-drop, length-set, take_all}
use Rattle.std.specs.Io.KnownBytes.{Appends}
use Rattle.warm_player.proofs.HexDigitLemmas.{slot_line}
use Rattle.warm_player.proofs.printer.print_pinned.Goals as goal

pub write_digits-dot-requires : goal.write_digits-dot-requires
write_digits-dot-requires g c = search (rules, length-decimal-le 20)

pub overflow_sub-dot : goal.overflow_sub-dot
overflow_sub-dot g c =
    let long : length (decimal c.args.slot.generation) ≤ 20 = search (rules, length-decimal-le 20) in
    omega (arith, c.write_digits-dot.ensures.start, long)

pub write_digits-number-requires : goal.write_digits-number-requires
write_digits-number-requires g c =
    let dot = c.write_digits-dot in
    let long : length (decimal c.args.slot.generation) ≤ 20 = search (rules, length-decimal-le 20) in
    let short : length (decimal c.from.result) ≤ 10 = search (rules, length-decimal-le 10) in
    let size : length dot.new.buf ≡ 37 = search rules in
    (omega (arith, dot.ensures.start, long, short), omega (arith, dot.ensures.start, size, length-set dot.new.buf (dot.result - 1) 46))

pub put_slot_word-start-requires : goal.put_slot_word-start-requires
put_slot_word-start-requires g c =
    let dot = c.write_digits-dot in
    let number = c.write_digits-number in
    let long : length (decimal c.args.slot.generation) ≤ 20 = search (rules, length-decimal-le 20) in
    let short : length (decimal c.from.result) ≤ 10 = search (rules, length-decimal-le 10) in
    let size : length number.new.buf ≡ 37 = search rules in
    (omega (arith, dot.ensures.start, number.ensures.start, long, short), omega (arith, dot.ensures.start, number.ensures.start, size))

pub returns : goal.returns
returns g c =
    let contents = g.W.Write.contents in
    let dot = c.write_digits-dot in
    let number = c.write_digits-number in
    let start = c.put_slot_word-start in
    let long : length (decimal c.args.slot.generation) ≤ 20 = search (rules, length-decimal-le 20) in
    let size : length dot.new.buf ≡ 37 = search rules in
    let back : dot.result - 1 + 1 ≡ dot.result = omega (arith, dot.ensures.start, long) in
    let point = drop-set dot.new.buf (dot.result - 1) 46 (omega (arith, dot.ensures.start, long, size)) in
    let generation = c.args.slot.generation in
    let later : drop (dot.result - 1) (set dot.new.buf (dot.result - 1) 46) ≡ 46 ∷ (decimal generation ++ 10 ∷ []) =
    point ∙ ap (λ (n : ℕ). 46 ∷ drop n dot.new.buf) back ∙ ap (λ (t : List ℕ). 46 ∷ t) dot.ensures.written in
    let digits = number.ensures.written ∙ ap (λ (t : List ℕ). decimal c.from.result ++ t) later ∙ ap (λ (n : ℕ). decimal n ++ 46 ∷ (decimal generation ++ 10 ∷ [])) c.from.ensures in
    let room : length start.new.line ≡ 37 = search rules in
    let written = take_all (37 - start.result) (drop start.result start.new.line) (omega (arith, room, length-drop start.result start.new.line)) in
    let text = written ∙ start.ensures.written ∙ ap (λ (t : List ℕ). codes "slot " ++ t) digits in
    subst (λ (t : List ℕ). OnOk c.write_all.result (Appends (contents c.args.writer.now) (contents c.write_all.new.self) t)) (text ∙ slot_line c.args.slot)
    c.write_all.ensures.bytes
