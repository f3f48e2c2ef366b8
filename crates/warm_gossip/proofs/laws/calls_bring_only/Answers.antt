use Rattle.warm_gossip.proofs.BringsLemmas.{calls_bring_only}
use Rattle.warm_gossip.proofs.laws.calls_bring_only.Goals as goal

pub returns : goal.returns
returns c = calls_bring_only
