use Rattle.std.proofs.Common.{◌≡◌, ◌≤◌, ◌+◌, ◌-◌, ◌∷◌, ◌++◌, ℕ, List, length, drop, decimal, arith, rules, set, ap, ◌∙◌}
use Rattle.std.proofs.lemmas.Fmt.{length-decimal-le}
use Rattle.std.proofs.lemmas.List.{drop-set, length-set}
use Rattle.warm_player.proofs.printer.put_two.Goals as goal

pub write_digits-middle-requires : goal.write_digits-middle-requires
write_digits-middle-requires c =
    let long : length (decimal c.args.last) ≤ 20 = search (rules, length-decimal-le 20) in
    (omega (arith, c.requires.0, long), c.requires.1)

pub overflow_sub-middle : goal.overflow_sub-middle
overflow_sub-middle c =
    let long : length (decimal c.args.last) ≤ 20 = search (rules, length-decimal-le 20) in
    omega (arith, c.write_digits-middle.ensures.start, long, c.requires.0)

pub write_digits-requires : goal.write_digits-requires
write_digits-requires c =
    let middle = c.write_digits-middle in
    let long : length (decimal c.args.last) ≤ 20 = search (rules, length-decimal-le 20) in
    let first : length (decimal c.args.first) ≤ 20 = search (rules, length-decimal-le 20) in
    let size : length middle.new.buf ≡ length c.args.line.now = search rules in
    (omega (arith, middle.ensures.start, long, first, c.requires.0), omega (arith, middle.ensures.start, size, c.requires.1, length-set middle.new.buf (middle.result - 1) c.args.between))

pub returns-clause-start : goal.returns-clause-start
returns-clause-start c =
    let long : length (decimal c.args.last) ≤ 20 = search (rules, length-decimal-le 20) in
    let first : length (decimal c.args.first) ≤ 20 = search (rules, length-decimal-le 20) in
    (omega (arith, c.write_digits-middle.ensures.start, c.write_digits.ensures.start, c.requires.0, long), omega (arith, c.write_digits-middle.ensures.start, c.write_digits.ensures.start, long, first, c.requires.0))

pub returns-clause-written : goal.returns-clause-written
returns-clause-written c =
    let middle = c.write_digits-middle in
    let between = c.args.between in
    let long : length (decimal c.args.last) ≤ 20 = search (rules, length-decimal-le 20) in
    let size : length middle.new.buf ≡ length c.args.line.now = search rules in
    let back : middle.result - 1 + 1 ≡ middle.result = omega (arith, middle.ensures.start, long, c.requires.0) in
    let point = drop-set middle.new.buf (middle.result - 1) between (omega (arith, middle.ensures.start, long, size, c.requires.0, c.requires.1)) in
    let later : drop (middle.result - 1) (set middle.new.buf (middle.result - 1) between) ≡ between ∷ (decimal c.args.last ++ drop c.args.end c.args.line.now) =
    point ∙ ap (λ (n : ℕ). between ∷ drop n middle.new.buf) back ∙ ap (λ (t : List ℕ). between ∷ t) middle.ensures.written in
    c.write_digits.ensures.written ∙ ap (λ (t : List ℕ). decimal c.args.first ++ t) later
