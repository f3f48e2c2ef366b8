use Rattle.warm_stamps.proofs.StampLemmas.{stamp_order_is_total}
use Rattle.warm_stamps.proofs.laws.stamp_order_is_total.Goals as goal

pub returns : goal.returns
returns c = stamp_order_is_total
