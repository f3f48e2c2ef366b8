use Rattle.warm_pool.proofs.LendingLemmas.{lent_page}
use Rattle.warm_pool.proofs.laws.lent_page_is_written.Goals as goal

pub returns : goal.returns
returns c = lent_page
