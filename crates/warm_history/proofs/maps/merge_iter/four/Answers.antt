use Rattle.std.proofs.Common.{◌+◌, ◌∙◌, arith}
use Rattle.warm_history.proofs.maps.MergeIterLemmas.{two_halves}
use Rattle.warm_history.proofs.maps.merge_iter.four.Goals as goal

pub returns : goal.returns
returns c = c.merge_both.ensures ∙ two_halves c.args.maps.now c.args.number 2 (c.args.number + 4) _ _ (omega arith) c.two-one.ensures c.two-other.ensures
