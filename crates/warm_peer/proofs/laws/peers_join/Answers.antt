use Rattle.std.proofs.Common.{subst}
use Rattle.warm_history.specs.Histories.{IsHistory}
use Rattle.warm_peer.proofs.RoundLemmas.{gossip_round_joins}
use Rattle.warm_peer.proofs.laws.peers_join.Goals as goal

pub returns : goal.returns
returns c = λ h' g'.
    gossip_round_joins c.args.one.now.id c.args.other.now.id c.args.one.now.history c.args.other.now.history h' g'
    (subst IsHistory c.history.ensures c.prove_is_history.ensures) (subst IsHistory c.history-2.ensures c.prove_is_history-2.ensures) c.peer_fits.ensures c.peer_fits-2.ensures
