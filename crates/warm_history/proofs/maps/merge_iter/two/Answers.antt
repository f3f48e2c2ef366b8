use Rattle.std.proofs.Common.{◌+◌, ◌∙◌, arith}
use Rattle.warm_history.proofs.maps.MergeIterLemmas.{two_halves}
use Rattle.warm_history.proofs.maps.merge_iter.two.Goals as goal

pub returns : goal.returns
returns c = c.merge_both.ensures ∙ two_halves c.args.maps.now c.args.number 1 (c.args.number + 2) _ _ (omega arith) c.bucket_iter-one.ensures c.bucket_iter-other.ensures
