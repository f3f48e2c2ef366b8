use Rattle.warm_stamps.proofs.StampLemmas.{reference_order_is_total}
use Rattle.warm_stamps.proofs.laws.reference_order_is_total.Goals as goal

pub returns : goal.returns
returns c = reference_order_is_total
