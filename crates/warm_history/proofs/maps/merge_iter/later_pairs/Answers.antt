use Rattle.std.proofs.Common.{◌∙◌}
use Rattle.warm_maps.specs.LaterPages.{is_next_in_bucket}
use Rattle.warm_maps.proofs.MapKeyOrder.{of_bucket}
use Rattle.warm_history.proofs.maps.KeptPairLemmas.{chosen_kept}
use Rattle.warm_history.proofs.maps.merge_iter.later_pairs.Goals as goal

pub returns : goal.returns
returns c =
    let b = c.args.number in
    let after = c.args.after in
    c.later_pairs.ensures ∙ chosen_kept b (is_next_in_bucket b after) (of_bucket b after) c.args.maps.now c.requires.kept
