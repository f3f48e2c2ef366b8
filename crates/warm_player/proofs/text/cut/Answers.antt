use Rattle.std.proofs.Common.{◌∷◌, ap, sym, ◌∙◌, List, ℕ, take, arith}
use Rattle.warm_player.specs.Text.{split}
use Rattle.warm_player.proofs.SplitLemmas.{cut_found, cut_none, rest_is}
use Rattle.warm_player.proofs.text.cut.Goals as goal

pub returns-then-text-i-clause-pieces : goal.returns-then-text-i-clause-pieces
returns-then-text-i-clause-pieces c =
    cut_found c.args.separator c.args.text.now c.loop-i.i c.loop-i-test.true c.if-text-i.true c.loop-i.invariant
    ∙ ap (λ (rest : List ℕ). take c.loop-i.i c.args.text.now ∷ split c.args.separator rest) (sym (rest_is c.args.text.now c.loop-i.i))

pub returns-clause-pieces : goal.returns-clause-pieces
returns-clause-pieces c = cut_none c.args.separator c.args.text.now (λ k lt. c.loop-i.invariant k (omega arith))
