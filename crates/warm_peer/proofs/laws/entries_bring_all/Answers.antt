use Rattle.warm_peer.proofs.RoundLemmas.{entries_bring_all}
use Rattle.warm_peer.proofs.laws.entries_bring_all.Goals as goal

pub returns : goal.returns
returns c = entries_bring_all
