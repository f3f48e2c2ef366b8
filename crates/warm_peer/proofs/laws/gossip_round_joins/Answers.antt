use Rattle.warm_peer.proofs.RoundLemmas.{gossip_round_joins}
use Rattle.warm_peer.proofs.laws.gossip_round_joins.Goals as goal

pub returns : goal.returns
returns c = gossip_round_joins
