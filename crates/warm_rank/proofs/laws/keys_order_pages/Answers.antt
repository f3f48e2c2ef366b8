use Rattle.warm_rank.proofs.KeyLemmas.{keys_order_pages}
use Rattle.warm_rank.proofs.laws.keys_order_pages.Goals as goal

pub returns : goal.returns
returns c = keys_order_pages
