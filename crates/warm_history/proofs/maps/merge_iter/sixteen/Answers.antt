use Rattle.std.proofs.Common.{◌+◌, ◌∙◌, arith}
use Rattle.warm_history.proofs.maps.MergeIterLemmas.{two_halves}
use Rattle.warm_history.proofs.maps.merge_iter.sixteen.Goals as goal

pub returns : goal.returns
returns c = c.merge_both.ensures ∙ two_halves c.args.maps.now c.args.number 8 (c.args.number + 16) _ _ (omega arith) c.eight-one.ensures c.eight-other.ensures
