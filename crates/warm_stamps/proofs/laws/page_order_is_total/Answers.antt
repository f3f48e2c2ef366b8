use Rattle.warm_stamps.proofs.StampLemmas.{page_order_is_total}
use Rattle.warm_stamps.proofs.laws.page_order_is_total.Goals as goal

pub returns : goal.returns
returns c = page_order_is_total
