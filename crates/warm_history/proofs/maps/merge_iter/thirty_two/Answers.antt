use Rattle.std.proofs.Common.{◌+◌, ◌∙◌, arith}
use Rattle.warm_history.proofs.maps.MergeIterLemmas.{two_halves}
use Rattle.warm_history.proofs.maps.merge_iter.thirty_two.Goals as goal

pub returns : goal.returns
returns c = c.merge_both.ensures ∙ two_halves c.args.maps.now c.args.number 16 (c.args.number + 32) _ _ (omega arith) c.sixteen-one.ensures c.sixteen-other.ensures
