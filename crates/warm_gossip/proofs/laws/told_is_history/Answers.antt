use Rattle.warm_gossip.proofs.GivenLemmas.{told_is_history}
use Rattle.warm_gossip.proofs.laws.told_is_history.Goals as goal

pub returns : goal.returns
returns c = told_is_history
