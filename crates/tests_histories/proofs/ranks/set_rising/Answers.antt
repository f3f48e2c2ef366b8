use Rattle.std.proofs.Common.{◌∙◌, ap, length}
use Rattle.std.proofs.lemmas.List.{length-set}
use Rattle.tests_histories.proofs.ranks.set_rising.Goals as goal

pub loop-slot-preserved : goal.loop-slot-preserved
loop-slot-preserved c = ap length c.set.ensures ∙ length-set _ _ _ ∙ c.loop-slot.invariant
