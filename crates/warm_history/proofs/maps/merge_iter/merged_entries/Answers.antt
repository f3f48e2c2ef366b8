use Rattle.std.proofs.Common.{◌∙◌, arith}
use Rattle.warm_history.specs.maps.KeptPairs.{kept}
use Rattle.warm_history.proofs.maps.MergeIterLemmas.{two_halves, of_all_buckets}
use Rattle.warm_history.proofs.maps.merge_iter.merged_entries.Goals as goal

pub returns : goal.returns
returns c =
    let pairs = c.args.maps.now in
    c.merge_both.ensures
    ∙ two_halves pairs 0 32 64 _ _ (omega arith) c.thirty_two-one.ensures c.thirty_two-other.ensures
    ∙ of_all_buckets (kept pairs)
