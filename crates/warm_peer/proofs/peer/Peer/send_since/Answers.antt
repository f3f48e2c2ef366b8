use Rattle.std.proofs.Common.{ap, sym}
use Rattle.warm_history.specs.Histories.{references_of}
use Rattle.warm_history.proofs.JoinLemmas.{history_of_own_references}
use Rattle.warm_frames.specs.declared.layout.TheConstants.{MAX_ENTRIES}
use Rattle.warm_peer.specs.Since.{sent_since}
use Rattle.warm_peer.specs.State.{PeerState}
use Rattle.warm_peer.proofs.SinceLemmas.{brings_held}
use Rattle.warm_peer.proofs.peer.Peer.send_since.Goals as goal

pub returns-clause-sent : goal.returns-clause-sent
returns-clause-sent c =
    let h = c.history-history.result.now in
    let carried = c.in_ok-portion.ensures.carried (references_of h) (sym (history_of_own_references h c.horizon.ensures.whole)) in
    rw (c.holding.ensures, carried, c.horizon.ensures.value, c.history-history.ensures) (ap (λ (s : PeerState). sent_since s.id s.history c.args.bucket c.args.since c.args.after) c.self.view_is)

pub returns-clause-more : goal.returns-clause-more
returns-clause-more c = rw (← c.self.view_is) (rw c.history-history.ensures at c.in_ok-portion.ensures.more)

pub returns-clause-held : goal.returns-clause-held
returns-clause-held c =
    let h = c.self.inside.history.history in
    rw (← c.self.view_is, c.holding.ensures, c.horizon.ensures.value, c.history-history.ensures)
    (brings_held c.self.inside.id h c.args.bucket c.args.since MAX_ENTRIES c.args.after _ (rw c.history-history.ensures at c.in_ok-portion.ensures.first))
