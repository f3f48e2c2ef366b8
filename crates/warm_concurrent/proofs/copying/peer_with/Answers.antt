use Rattle.std.proofs.Common.{ap, ◌∙◌}
use Rattle.warm_history.specs.Histories.{join}
use Rattle.warm_peer.specs.State.{PeerState}
use Rattle.warm_concurrent.proofs.CopyLemmas.{joined_to_none}
use Rattle.warm_concurrent.proofs.copying.peer_with.Goals as goal

pub returns-clause-history : goal.returns-clause-history
returns-clause-history c =
    let h = c.args.history.now in
    c.in_ok-join.ensures.exact
    ∙ ap (λ (p : PeerState). join p.history h) c.new-peer.ensures
    ∙ joined_to_none h c.prove_is_history.ensures
