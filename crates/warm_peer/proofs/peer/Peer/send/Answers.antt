use Rattle.std.proofs.Common.{ap, sym}
use Rattle.warm_history.specs.Histories.{references_of}
use Rattle.warm_history.proofs.JoinLemmas.{history_of_own_references}
use Rattle.warm_peer.specs.Answers.{sent}
use Rattle.warm_peer.specs.State.{PeerState}
use Rattle.warm_peer.proofs.peer.Peer.send.Goals as goal

pub returns : goal.returns
returns c =
    let h = c.history-history.result.now in
    let carried = c.in_ok-entries.ensures.carried (references_of h) (sym (history_of_own_references h c.horizon.ensures.whole)) in
    rw (c.holding.ensures, carried, c.horizon.ensures.value, c.history-history.ensures) (ap (λ (s : PeerState). sent s.id s.history c.args.bucket c.args.after) c.self.view_is)
