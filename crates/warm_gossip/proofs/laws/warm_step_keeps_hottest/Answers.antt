use Rattle.warm_gossip.proofs.WarmUpLemmas.{warm_step_keeps_hottest}
use Rattle.warm_gossip.proofs.laws.warm_step_keeps_hottest.Goals as goal

pub returns : goal.returns
returns c = warm_step_keeps_hottest
