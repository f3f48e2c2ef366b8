use Rattle.warm_digest.proofs.ExchangeLemmas.{exchange_joins}
use Rattle.warm_digest.proofs.laws.exchange_joins.Goals as goal

pub returns : goal.returns
returns c = exchange_joins
