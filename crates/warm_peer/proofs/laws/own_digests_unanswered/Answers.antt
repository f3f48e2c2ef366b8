use Rattle.warm_peer.proofs.RoundLemmas.{own_digests_unanswered}
use Rattle.warm_peer.proofs.laws.own_digests_unanswered.Goals as goal

pub returns : goal.returns
returns c = own_digests_unanswered
