use Rattle.warm_pool.proofs.RetireLemmas.{exchanged}
use Rattle.warm_pool.proofs.retire.exchange.Goals as goal

pub returns-clause-put : goal.returns-clause-put
returns-clause-put g c = exchanged _ _ _ _ _ c.replace.ensures.after
